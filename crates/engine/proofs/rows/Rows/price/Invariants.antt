-- The rows hold the gains and costs of the wires so far.
use Rattle.engine.proofs.Pricing.{Added}
use Rattle.engine.proofs.rows.Rows.price.Given as goal

abbrev pub invariant-loop-k : goal.invariant-loop-k
invariant-loop-k l = Added l.self.table.gates l.self.table.links.now l.self.holders l.self.flows l.k l.prices.gains l.prices.costs
