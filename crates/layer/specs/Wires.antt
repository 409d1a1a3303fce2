-- The rows that have the pins and the wires of a netlist, and no more.
use Rattle.std.specs.Prelude.{◌≡◌, ℕ, ◌<◌, Bool, false, List, slice_index_or}
use Rattle.netlist.specs.Net.{Net}
use Rattle.wiring.specs.declared.wire.Wire.{Wire}
use Rattle.wiring.specs.Held.{HoldsWires}

-- a row of so many pins says of each gate whether it is pinned
pub record HasPins (n : Net) (long : ℕ) (row : List Bool) : Type 0 where
  pub size_is : long ≡ n.gates
  pub at : (g : ℕ) → g < n.gates → slice_index_or row g false ≡ n.pinned g

-- a list of so many wires has those of n, in order
pub record HasWires (n : Net) (long : ℕ) (ws : List Wire) : Type 0 where
  pub size_is : long ≡ n.wires
  pub at : HoldsWires n ws
