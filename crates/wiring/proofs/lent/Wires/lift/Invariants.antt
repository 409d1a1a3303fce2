use Rattle.std.proofs.Common.{◌≡◌, ℕ, ◌<◌, false}
use Rattle.wiring.specs.Levels.{RisesAt}
use Rattle.wiring.proofs.lent.Wires.lift.Given as goal

abbrev pub invariant-loop-wire : goal.invariant-loop-wire
invariant-loop-wire l = l.lifted ≡ false → (k : ℕ) → k < l.wire-index → RisesAt l.self.list.now l.levels k
