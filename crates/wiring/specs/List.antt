-- A list of wires beside its numbers of gates and pins: what its check accepts and refuses, and what it opens as.
use Rattle.std.specs.Prelude.{◌≡◌, ℕ, Bool, false, List, [], length, nat_lt}
use Rattle.netlist.specs.Net.{Net}
use Rattle.wiring.specs.declared.fault.CheckFault.{CheckFault}
use Rattle.wiring.specs.declared.fault.CheckFault.TheVariants.{ShortFile, TooLarge, WrongLength, NoGate, CountTooLarge, FreeRound}
use Rattle.wiring.specs.declared.wire.Wire.{Wire}
use Rattle.wiring.specs.Check.{Fits, WiresPass, WiresFail}
use Rattle.wiring.specs.Wires.{wired}

-- the gates below the pin number are pinned
abbrev pub listed : ℕ → ℕ → List Wire → Net
listed gates pins ws = wired gates (λ g. nat_lt g pins) ws

abbrev pub no_gates : Net
no_gates = wired 0 (λ _. false) []

-- the sizes fit, and the wires have no fault
pub record Passes (limit gates pins : ℕ) (ws : List Wire) : Type 0 where
  pub sizes : Fits gates pins (length ws)
  pub wires : WiresPass limit (listed gates pins ws)

-- the first fault, tried in this order
abbrev pub Fails : ℕ → ℕ → ℕ → List Wire → CheckFault → Type 0
Fails limit gates pins ws ShortFile = ⊥
Fails limit gates pins ws TooLarge = Fits gates pins (length ws) → ⊥
Fails limit gates pins ws WrongLength = ⊥
Fails limit gates pins ws (NoGate k) = Fits gates pins (length ws) × WiresFail limit (listed gates pins ws) (NoGate k)
Fails limit gates pins ws (CountTooLarge k) = Fits gates pins (length ws) × WiresFail limit (listed gates pins ws) (CountTooLarge k)
Fails limit gates pins ws (FreeRound k) = Fits gates pins (length ws) × WiresFail limit (listed gates pins ws) (FreeRound k)

-- the netlist that opening shows
pub record Opens (gates pins : ℕ) (ws : List Wire) (n : Net) : Type 0 where
  pub accepted : Passes 1048575 gates pins ws → n ≡ listed gates pins ws
  pub refused : (f : CheckFault) → Fails 1048575 gates pins ws f → n ≡ no_gates

-- the same where a test says which gates are pinned, whatever their order
pub record OpensPinned (gates : ℕ) (pinned : ℕ → Bool) (ws : List Wire) (n : Net) : Type 0 where
  pub accepted : Passes 1048575 gates 0 ws → n ≡ wired gates pinned ws
  pub refused : (f : CheckFault) → Fails 1048575 gates 0 ws f → n ≡ no_gates
