use Rattle.std.proofs.Common.{◌≡◌, get_or}
use Rattle.engine.proofs.Walking.{Walking}
use Rattle.engine.proofs.rows.Rows.carry.Given as goal

abbrev pub invariant-loop-v : goal.invariant-loop-v
invariant-loop-v l =
    (l.self.table ≡ l.initial.self.table)
    × (l.self.depths ≡ l.initial.self.depths)
    × Walking l.way l.self.table.gates l.self.table.links.now l.self.depths l.trail.marks l.trail.hops l.target l.initial.self.holders l.initial.self.flows l.v l.self.holders l.self.flows

abbrev pub decreases-loop-v : goal.decreases-loop-v
decreases-loop-v l = get_or l.trail.hops l.v 0
