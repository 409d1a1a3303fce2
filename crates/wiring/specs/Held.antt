-- The wires of a netlist as they stand in a list.
use Rattle.std.specs.Prelude.{◌≡◌, ℕ, ◌<◌, List, slice_index_or}
use Rattle.netlist.specs.Net.{Net}
use Rattle.wiring.specs.declared.wire.Wire.{Wire}
use Rattle.wiring.specs.Wires.{no_wire}

abbrev pub wire_of : Net → ℕ → Wire
wire_of n k = record { driver = n.driver k; driven = n.driven k; count = n.count k }

-- the list begins with the wires of n, in order
abbrev pub HoldsWires : Net → List Wire → Type 0
HoldsWires n ws = (k : ℕ) → k < n.wires → slice_index_or ws k no_wire ≡ wire_of n k
