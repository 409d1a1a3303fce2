use Rattle.std.proofs.Common.{◌≡◌, ℕ, ◌<◌, [], length, get_or}
use Rattle.drawing.specs.Parsed.{wire_from}
use Rattle.wiring.specs.Wires.{no_wire}
use Rattle.drawing.proofs.file.read_wires.Given as goal

abbrev pub invariant-loop-ends : goal.invariant-loop-ends
invariant-loop-ends l = (length l.wires.items ≡ length l.yielded) × ((k : ℕ) → k < length l.yielded → get_or l.wires.items k no_wire ≡ wire_from (get_or l.ends k []) (get_or l.counts k []))
