-- What the check of wires looks for, and which wire it names.
use Rattle.std.specs.Prelude.{ℕ, ◌<◌, ◌≤◌, ◌⊎◌, Option, MatchOption}
use Rattle.netlist.specs.Net.{Net, OnFreeRound}
use Rattle.wiring.specs.declared.fault.CheckFault.{CheckFault}
use Rattle.wiring.specs.declared.fault.CheckFault.TheVariants.{ShortFile, TooLarge, WrongLength, NoGate, CountTooLarge, FreeRound}

-- P holds of no number below the bound
abbrev pub NoneBelow : ℕ → (ℕ → Type 0) → Type 0
NoneBelow bound P = (k : ℕ) → k < bound → P k → ⊥

-- k is the lowest number below the bound that P holds of
pub record Lowest (bound : ℕ) (P : ℕ → Type 0) (k : ℕ) : Type 0 where
  pub within : k < bound
  pub here : P k
  pub before : NoneBelow k P

-- the lowest number below the bound that P holds of, where there is one
abbrev pub Finds : ℕ → (ℕ → Type 0) → Option ℕ → Type 0
Finds bound P r = MatchOption r (NoneBelow bound P) (Lowest bound P)

-- an end of wire k is no gate
abbrev pub Stray : Net → ℕ → Type 0
Stray n k = (n.gates ≤ n.driver k) ⊎ (n.gates ≤ n.driven k)

-- the count of wire k is over the limit
abbrev pub Deep : ℕ → Net → ℕ → Type 0
Deep limit n k = limit < n.count k

-- the sizes are within the limits of a netlist
pub record Fits (gates pins wires : ℕ) : Type 0 where
  pub gates_fit : gates ≤ 1024
  pub wires_fit : wires ≤ 4096
  pub pins_fit : pins ≤ gates

-- the wires of n have no fault
pub record WiresPass (limit : ℕ) (n : Net) : Type 0 where
  pub ends : NoneBelow n.wires (Stray n)
  pub counts : NoneBelow n.wires (Deep limit n)
  pub rounds : NoneBelow n.wires (OnFreeRound n)

-- the first fault of the wires of n, tried in this order, with the lowest wire that has it
abbrev pub WiresFail : ℕ → Net → CheckFault → Type 0
WiresFail limit n ShortFile = ⊥
WiresFail limit n TooLarge = ⊥
WiresFail limit n WrongLength = ⊥
WiresFail limit n (NoGate k) = Lowest n.wires (Stray n) k
WiresFail limit n (CountTooLarge k) = NoneBelow n.wires (Stray n) × Lowest n.wires (Deep limit n) k
WiresFail limit n (FreeRound k) = NoneBelow n.wires (Stray n) × NoneBelow n.wires (Deep limit n) × Lowest n.wires (OnFreeRound n) k
