use Rattle.std.proofs.Common.{◌≡◌, ℕ}
use Rattle.retiming.specs.Push.{pushed_by, only_on}
use Rattle.engine.specs.Step.{inside}
use Rattle.engine.specs.Table.{lags_of}
use Rattle.engine.proofs.step.move_lags.Given as goal

abbrev pub invariant-loop-g : goal.invariant-loop-g
invariant-loop-g l = (j : ℕ) → lags_of l.lags j ≡ pushed_by l.way (only_on (inside l.g l.marks) l.by) (lags_of l.initial.lags) j
