use Rattle.engine.proofs.Picking.{MarkedSoFar, SeenSoFar}
use Rattle.engine.proofs.table.Table.mark_seeds.Given as goal

abbrev pub invariant-loop-gate : goal.invariant-loop-gate
invariant-loop-gate l = MarkedSoFar l.way l.self.fixed.now l.prices.gains l.prices.costs l.marks l.gate × SeenSoFar l.way l.self.fixed.now l.prices.gains l.prices.costs l.some l.gate
