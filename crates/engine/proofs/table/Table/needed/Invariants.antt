-- The sum of the counts of the wires so far that hold a share.
use Rattle.std.proofs.Common.{◌≡◌, ◌*◌, ◌≤◌}
use Rattle.engine.proofs.Needed.{held_sum}
use Rattle.engine.proofs.table.Table.needed.Given as goal

abbrev pub invariant-loop-k : goal.invariant-loop-k
invariant-loop-k l = (l.sum ≡ held_sum l.self.links.now l.depths l.holders l.k) × (l.sum ≤ 4294967295 * l.k)
