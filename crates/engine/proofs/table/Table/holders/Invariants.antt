-- The bundles of the wires so far have holders.
use Rattle.engine.proofs.Choosing.{Chosen}
use Rattle.engine.proofs.table.Table.holders.Given as goal

abbrev pub invariant-loop-k : goal.invariant-loop-k
invariant-loop-k l = Chosen l.self.links.now l.depths l.holders l.k
