-- A list of wires, the netlist that it stands for, and what a netlist asks of it.
use Rattle.std.specs.Prelude.{ℕ, ◌<◌, ◌≤◌, Bool, false, List, length, slice_index_or}
use Rattle.netlist.specs.Net.{Net, OnFreeRound}
use Rattle.wiring.specs.declared.wire.Wire.{Wire}

-- what stands past the end of a list
abbrev pub no_wire : Wire
no_wire = record { driver = 0; driven = 0; count = 0 }

-- the wires ws over so many gates, of which those that pass the test are pinned
abbrev pub wired : ℕ → (ℕ → Bool) → List Wire → Net
wired gates pinned ws = record {
  gates = gates;
  pinned = pinned;
  wires = length ws;
  driver = λ k. (slice_index_or ws k no_wire).driver;
  driven = λ k. (slice_index_or ws k no_wire).driven;
  count = λ k. (slice_index_or ws k no_wire).count;
}

abbrev pub EndsWithin : ℕ → List Wire → Type 0
EndsWithin gates ws = (k : ℕ) → k < length ws → ((slice_index_or ws k no_wire).driver < gates) × ((slice_index_or ws k no_wire).driven < gates)

abbrev pub CountsWithin : ℕ → List Wire → Type 0
CountsWithin limit ws = (k : ℕ) → k < length ws → (slice_index_or ws k no_wire).count ≤ limit

-- pins have no say in rounds
abbrev pub NoFreeRound : ℕ → List Wire → Type 0
NoFreeRound gates ws = (k : ℕ) → OnFreeRound (wired gates (λ _. false) ws) k → ⊥
