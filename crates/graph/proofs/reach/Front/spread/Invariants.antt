-- The walk over the queue: each turn leaves one node less to visit.
use Rattle.std.proofs.Common.{◌-◌}
use Rattle.graph.proofs.Walks.{Visiting}
use Rattle.graph.proofs.reach.Front.spread.Given as goal

abbrev pub invariant-loop-v : goal.invariant-loop-v
invariant-loop-v g l = Visiting (g.G.Graph.shape l.arcs.graph.now) l.initial.self l.self l.head

abbrev pub decreases-loop-v : goal.decreases-loop-v
decreases-loop-v g l = (g.G.Graph.shape l.arcs.graph.now).nodes - l.head
