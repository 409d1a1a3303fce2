-- Levels of gates that rise along each wire without a register.
use Rattle.std.specs.Prelude.{◌≡◌, ℕ, ◌<◌, List, length, slice_index, slice_index_or}
use Rattle.wiring.specs.declared.wire.Wire.{Wire}
use Rattle.wiring.specs.Wires.{no_wire}

-- wire k, if it has no register, leads to a higher level
abbrev pub RisesAt : List Wire → List ℕ → ℕ → Type 0
RisesAt ws levels k = (slice_index_or ws k no_wire).count ≡ 0 → slice_index levels (slice_index_or ws k no_wire).driver < slice_index levels (slice_index_or ws k no_wire).driven

abbrev pub Rises : List Wire → List ℕ → Type 0
Rises ws levels = (k : ℕ) → k < length ws → RisesAt ws levels k
