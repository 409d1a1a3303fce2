-- The walk along a chain: links fall.
use Rattle.graph.proofs.Walks.{Walking, bound}
use Rattle.graph.proofs.reach.Front.visit.Given as goal

abbrev pub invariant-loop-link : goal.invariant-loop-link
invariant-loop-link g l = (Walking (g.G.Graph.shape l.arcs.graph.now) l.v l.link l.initial.self l.self)

abbrev pub decreases-loop-link : goal.decreases-loop-link
decreases-loop-link g l = bound l.link
