use Rattle.std.proofs.Common.{ℕ, ◌<◌, pos, ◌≤ℤ◌}
use Rattle.netlist.specs.Lags.{lagged}
use Rattle.engine.specs.Table.{table, lags_of}
use Rattle.engine.proofs.table.Table.are_standing.Given as goal

abbrev pub invariant-loop-link : goal.invariant-loop-link
invariant-loop-link l = (j : ℕ) → j < l.link-index → pos 0 ≤ℤ lagged (table l.self.gates l.self.links.now) (lags_of l.lags) j
