use Rattle.std.proofs.Common.{ℕ, ◌<◌, ◌≤◌}
use Rattle.engine.specs.Step.{SlackAt}
use Rattle.engine.proofs.rows.Rows.slack.Given as goal

abbrev pub invariant-loop-k : goal.invariant-loop-k
invariant-loop-k l = (0 < l.least) × (l.least ≤ 2097152) × ((j : ℕ) → j < l.k → SlackAt l.way l.self.table.links.now l.self.depths l.self.holders l.marks l.least j)
