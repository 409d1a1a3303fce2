-- What `spread` owes: the head of the queue stays below the number of nodes, and each visit goes on from the last.
use Rattle.std.proofs.Common.{arith}
use Rattle.graph.proofs.Queueing.{queue_le}
use Rattle.graph.proofs.Walks.{visiting_first, visiting_next}
use Rattle.graph.proofs.reach.Front.spread.Goals as goal

pub loop-v-init : goal.loop-v-init
loop-v-init g c = visiting_first c.requires.queued

pub overflow_add-head : goal.overflow_add-head
overflow_add-head g c =
    let at_head = rw c.deref.ensures.0 at c.in-Some.ensures.lookup.3 in
    omega (arith, at_head.0, queue_le c.loop-v.invariant.grown.queued, c.requires.nodes, c.args.self.now.few)

pub loop-v-smaller : goal.loop-v-smaller
loop-v-smaller g c =
    let at_head = rw c.deref.ensures.0 at c.in-Some.ensures.lookup.3 in
    omega (arith, at_head.0, queue_le c.loop-v.invariant.grown.queued)

pub loop-v-preserved : goal.loop-v-preserved
loop-v-preserved g c =
    let at_head = rw c.deref.ensures.0 at c.in-Some.ensures.lookup.3 in
    visiting_next c.loop-v.invariant at_head.0 c.visit.ensures.same c.visit.ensures.grown (rw (c.from.ensures, at_head.1 0) at c.visit.ensures.left)
