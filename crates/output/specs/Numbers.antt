-- What writing a file puts into a row of bytes: 16-bit numbers, the three sizes, and the numbers of each wire.
use Rattle.std.specs.Prelude.{◌≡◌, ℕ, ◌+◌, ◌*◌, ◌<◌, ◌≤◌, List, slice_index}
use Rattle.drawing.specs.File.{word, gates_in, pins_in, wires_in}
use Rattle.netlist.specs.Net.{Net}
use Rattle.wiring.specs.Check.{NoneBelow, Deep}

-- no count is over the file's limit
abbrev pub Small : Net → Type 0
Small n = NoneBelow n.wires (Deep 255 n)

-- the bytes from a place on are as they were
abbrev pub KeptFrom : ℕ → List ℕ → List ℕ → Type 0
KeptFrom place before after = (i : ℕ) → place ≤ i → slice_index after i ≡ slice_index before i

-- the bytes below a place are as they were
abbrev pub KeptBelow : ℕ → List ℕ → List ℕ → Type 0
KeptBelow place before after = (i : ℕ) → i < place → slice_index after i ≡ slice_index before i

-- the value stands as number j, and all other bytes are as they were
pub record Puts (before after : List ℕ) (j value : ℕ) : Type 0 where
  pub here : word after (2 * j) ≡ value
  pub below : KeptBelow (2 * j) before after
  pub above : KeptFrom (2 * j + 2) before after

-- the bytes begin with the sizes of n, of which so many gates are pinned
pub record HoldsSizes (n : Net) (number : ℕ) (b : List ℕ) : Type 0 where
  pub gates : gates_in b ≡ n.gates
  pub pins : pins_in b ≡ number
  pub wires : wires_in b ≡ n.wires

-- the numbers of wire k stand at their places: its ends behind the sizes, its count behind the ends of all wires
pub record HoldsWire (n : Net) (b : List ℕ) (k : ℕ) : Type 0 where
  pub driver : word b (6 + 4 * k) ≡ n.driver k
  pub driven : word b (8 + 4 * k) ≡ n.driven k
  pub count : word b (6 + 4 * n.wires + 2 * k) ≡ n.count k

-- the numbers of the first so many wires stand at their places; the sizes and what lies behind the file are as they were
pub record PutsWires (n : Net) (number : ℕ) (before after : List ℕ) : Type 0 where
  pub sizes : KeptBelow 6 before after
  pub held : (k : ℕ) → k < number → HoldsWire n after k
  pub kept : KeptFrom (6 + 6 * n.wires) before after
