use Rattle.std.proofs.Common.{◌≡◌, ℕ, ◌<◌, ◌≤◌, get_or}
use Rattle.engine.specs.Rows.{shares}
use Rattle.engine.proofs.rows.Rows.write_shares.Given as goal

abbrev pub invariant-loop-k : goal.invariant-loop-k
invariant-loop-k l = ((j : ℕ) → j < l.k → get_or l.row j 0 ≡ shares l.self.table.links.now l.self.holders j) × ((j : ℕ) → l.k ≤ j → get_or l.row j 0 ≡ get_or l.initial.row j 0)
