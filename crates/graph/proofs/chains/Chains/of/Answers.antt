-- What `of` owes: one more arc is chained.
use Rattle.std.proofs.Common.{◌<◌, arith}
use Rattle.graph.proofs.Chaining.{chaining_none, chaining_more}
use Rattle.graph.proofs.chains.Chains.of.Goals as goal

pub loop-arc-init : goal.loop-arc-init
loop-arc-init g c = chaining_none _

pub loop-arc-preserved : goal.loop-arc-preserved
loop-arc-preserved g c =
    let graph = g.G.Graph.shape c.args.graph.now in
    let within : c.loop-arc.arc < graph.arcs = omega arith in
    let arc = c.arc-from.ensures.within within in
    chaining_more graph c.loop-arc.arc c.arc-from.result.0 _ _ arc.leaves (omega arith) (omega arith) c.loop-arc.invariant
