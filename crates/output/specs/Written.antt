-- What writing a netlist as a file accepts and refuses, and what stands in the row of bytes afterwards.
use Rattle.std.specs.Prelude.{◌≡◌, ℕ, ◌+◌, ◌*◌, ◌<◌, ◌≤◌, true, false, List, length, take, Result, MatchResult}
use Rattle.drawing.specs.File.{pins_in, drawn, Accepts}
use Rattle.netlist.specs.Net.{Net, pins}
use Rattle.wiring.specs.Check.{NoneBelow, Lowest, Deep}
use Rattle.output.specs.declared.fault.WriteFault.{WriteFault}
use Rattle.output.specs.declared.fault.WriteFault.TheVariants.{ShortRow, CountTooLarge, LatePin}
use Rattle.output.specs.Numbers.{Small, KeptFrom}
use Rattle.output.specs.Records.{PinnedBelow}

-- gate g is pinned, and some gate below it is not
pub record Late (n : Net) (g : ℕ) : Type 0 where
  pub pinned : n.pinned g ≡ true
  pub gap : ℕ
  pub gap_below : gap < g
  pub gap_free : n.pinned gap ≡ false

-- the pinned gates come first, and are so many
pub record PinsFirst (n : Net) (number : ℕ) : Type 0 where
  pub counted : number ≡ pins n
  pub first : PinnedBelow n number
  pub none_late : NoneBelow n.gates (Late n)

-- so many gates are pinned before the first that is not; where all are, it is the number of gates
pub record IsLeading (n : Net) (number : ℕ) : Type 0 where
  pub within : number ≤ n.gates
  pub pinned : (g : ℕ) → g < number → n.pinned g ≡ true
  pub free : number < n.gates → n.pinned number ≡ false

abbrev pub IsLatePin : Net → WriteFault → Type 0
IsLatePin n ShortRow = ⊥
IsLatePin n (CountTooLarge k) = ⊥
IsLatePin n (LatePin g) = Lowest n.gates (Late n) g

-- the file of n stands in front, later bytes are kept, and the file is accepted and opens as n
pub record Written (n : Net) (before after : List ℕ) (r : ℕ) : Type 0 where
  pub size_is : r ≡ 6 + 6 * n.wires
  pub room : r ≤ length before
  pub small : Small n
  pub pins : PinsFirst n (pins_in (take r after))
  pub kept : KeptFrom r before after
  pub accepted : Accepts (take r after)
  pub same : drawn (take r after) ≡ n

-- the first fault, tried in this order
abbrev pub Fails : Net → ℕ → WriteFault → Type 0
Fails n long ShortRow = long < 6 + 6 * n.wires
Fails n long (CountTooLarge k) = (6 + 6 * n.wires ≤ long) × Lowest n.wires (Deep 255 n) k
Fails n long (LatePin g) = (6 + 6 * n.wires ≤ long) × Small n × Lowest n.gates (Late n) g

-- there is a fault, and all is as it was
pub record Unwritten (n : Net) (before after : List ℕ) (f : WriteFault) : Type 0 where
  pub fault : Fails n (length before) f
  pub unchanged : after ≡ before

abbrev pub Writes : Net → List ℕ → List ℕ → Result ℕ WriteFault → Type 0
Writes n before after r = MatchResult r (Written n before after) (Unwritten n before after)
