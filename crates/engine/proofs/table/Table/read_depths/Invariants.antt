-- The wires so far have their counts under the lags.
use Rattle.std.proofs.Common.{◌≡◌, ℕ, ◌<◌, length, get_or, pos}
use Rattle.netlist.specs.Lags.{lagged}
use Rattle.engine.specs.Table.{table, lags_of}
use Rattle.engine.proofs.table.Table.read_depths.Given as goal

abbrev pub invariant-loop-k : goal.invariant-loop-k
invariant-loop-k l = (length l.depths ≡ 4096) × ((j : ℕ) → j < l.k → pos (get_or l.depths j 0) ≡ lagged (table l.self.gates l.self.links.now) (lags_of l.lags) j)
