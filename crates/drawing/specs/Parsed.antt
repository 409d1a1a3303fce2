-- What the check reads off a file on its way.
use Rattle.std.specs.Prelude.{◌≡◌, ℕ, List, nat_lt}
use Rattle.drawing.specs.declared.parsed.Parsed.{Parsed}
use Rattle.drawing.specs.declared.parsed.Sizes.{Sizes}
use Rattle.wiring.specs.declared.wire.Wire.{Wire}
use Rattle.drawing.specs.File.{word, gates_in, pins_in, wires_in, drawn, Sized, Accepts}
use Rattle.wiring.specs.Wires.{wired}

-- s are the sizes of the well-sized file b
pub record SizesOf (b : List ℕ) (s : Sizes) : Type 0 where
  pub sized : Sized b
  pub gates_are : s.gates ≡ gates_in b
  pub pins_are : s.pins ≡ pins_in b
  pub wires_are : s.wires ≡ wires_in b

-- a wire from the bytes of its two ends and those of its count
abbrev pub wire_from : List ℕ → List ℕ → Wire
wire_from ends count = record { driver = word ends 0; driven = word ends 2; count = word count 0 }

-- p holds the netlist that the accepted file b draws
pub record ParsedFrom (b : List ℕ) (p : Parsed) : Type 0 where
  pub accepted : Accepts b
  pub pins_are : p.pins ≡ pins_in b
  pub netlist_is : wired p.gates (λ g. nat_lt g p.pins) p.wires.items ≡ drawn b
