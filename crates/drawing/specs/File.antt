-- A drawing as a file: three sizes, the ends of each wire, the count of each wire, as 16-bit numbers, low byte first.
use Rattle.std.specs.Prelude.{◌≡◌, ℕ, ◌+◌, ◌*◌, ◌<◌, ◌≤◌, cond, List, length, ◌≢◌, nat_lt, slice_index}
use Rattle.netlist.specs.Net.{Net}
use Rattle.wiring.specs.declared.fault.CheckFault.{CheckFault}
use Rattle.wiring.specs.declared.fault.CheckFault.TheVariants.{ShortFile, TooLarge, WrongLength, NoGate, CountTooLarge, FreeRound}
use Rattle.wiring.specs.declared.wire.Wire.{Wire}
use Rattle.wiring.specs.Check.{Fits, WiresPass, WiresFail}
use Rattle.wiring.specs.List.{no_gates}
use Rattle.wiring.specs.Wires.{no_wire}

-- the number in the two bytes from place i
abbrev pub word : List ℕ → ℕ → ℕ
word b i = slice_index b i + 256 * slice_index b (i + 1)

abbrev pub gates_in : List ℕ → ℕ
gates_in b = word b 0

abbrev pub pins_in : List ℕ → ℕ
pins_in b = word b 2

abbrev pub wires_in : List ℕ → ℕ
wires_in b = word b 4

-- the numbers of wire k: its ends stand behind the sizes, its count behind the ends of all wires
abbrev pub wire_in : List ℕ → ℕ → Wire
wire_in b k = record { driver = word b (6 + 4 * k); driven = word b (8 + 4 * k); count = word b (6 + 4 * wires_in b + 2 * k) }

abbrev pub wire_or_none : List ℕ → ℕ → Wire
wire_or_none b k = cond (nat_lt k (wires_in b)) (wire_in b k) no_wire

-- the netlist that the bytes draw: the gates below the pin number are pinned
abbrev pub drawn : List ℕ → Net
drawn b = record {
  gates = gates_in b;
  pinned = λ g. nat_lt g (pins_in b);
  wires = wires_in b;
  driver = λ k. (wire_or_none b k).driver;
  driven = λ k. (wire_or_none b k).driven;
  count = λ k. (wire_or_none b k).count;
}

-- the sizes are there and within the limits, and the length is that of so many wires
pub record Sized (b : List ℕ) : Type 0 where
  pub long : 6 ≤ length b
  pub fits : Fits (gates_in b) (pins_in b) (wires_in b)
  pub exact : length b ≡ 6 + 6 * wires_in b

pub record Accepts (b : List ℕ) : Type 0 where
  pub sized : Sized b
  pub pass : WiresPass 255 (drawn b)

-- the first fault of the bytes, tried in this order
abbrev pub Refuses : List ℕ → CheckFault → Type 0
Refuses b ShortFile = length b < 6
Refuses b TooLarge = (6 ≤ length b) × (Fits (gates_in b) (pins_in b) (wires_in b) → ⊥)
Refuses b WrongLength = (6 ≤ length b) × Fits (gates_in b) (pins_in b) (wires_in b) × (length b ≢ 6 + 6 * wires_in b)
Refuses b (NoGate k) = Sized b × WiresFail 255 (drawn b) (NoGate k)
Refuses b (CountTooLarge k) = Sized b × WiresFail 255 (drawn b) (CountTooLarge k)
Refuses b (FreeRound k) = Sized b × WiresFail 255 (drawn b) (FreeRound k)

-- the netlist that opening shows
pub record Opened (b : List ℕ) (n : Net) : Type 0 where
  pub accepted : Accepts b → n ≡ drawn b
  pub refused : (f : CheckFault) → Refuses b f → n ≡ no_gates
