-- The arcs so far are chained.
use Rattle.graph.proofs.Chaining.{Chaining}
use Rattle.graph.proofs.chains.Chains.of.Given as goal

abbrev pub invariant-loop-arc : goal.invariant-loop-arc
invariant-loop-arc g l = Chaining (g.G.Graph.shape l.graph) l.arc l.chains
