-- The nodes so far are started.
use Rattle.graph.proofs.Starts.{Starting}
use Rattle.graph.proofs.reach.Front.start.Given as goal

abbrev pub invariant-loop-v : goal.invariant-loop-v
invariant-loop-v l = Starting l.initial.self l.v l.self
