-- What `visit` owes: a node without a mark finds room in the queue, its hop fits, and each way past an arc goes on with the walk.
use Rattle.std.proofs.Common.{arith}
use Rattle.graph.proofs.Queueing.{queue_le, hop_lt}
use Rattle.graph.proofs.Walks.{bound_falls, walking_first, walking_shut, walking_known, walking_found, mark_fits, node_fits, queue_fits}
use Rattle.graph.proofs.reach.Front.visit.Goals as goal
use Rattle.graph.proofs.reach.Front.visit.Goals.{then-open+then-self-to-eq0, else-open, else-open-via-then-open+else-self-to-eq0, else-open-via-else-open}

pub overflow_add-hop : goal.overflow_add-hop
overflow_add-hop g c = omega (arith, queue_le c.requires.queued, hop_lt c.requires.queued c.args.v c.requires.node c.requires.marked, c.requires.nodes, c.args.self.now.few)

pub loop-link-init : goal.loop-link-init
loop-link-init g c = rw c.latest-link.ensures (walking_first c.requires.queued (c.args.arcs.now.linked.begins c.args.v))

pub bounds-self-to : goal.bounds-self-to
bounds-self-to g c =
    let old = rw c.in-Some.is at c.loop-link.invariant in
    mark_fits old (c.arc-to.ensures.within old.leaves.0) c.requires.nodes

pub enqueue-requires : goal.enqueue-requires
enqueue-requires g c =
    let old = rw c.in-Some.is at c.loop-link.invariant in
    let arc = c.arc-to.ensures.within old.leaves.0 in
    record { node = node_fits old arc c.requires.nodes; room = queue_fits old arc c.requires.nodes c.if-self-to-eq0.true }

pub loop-link-smaller : goal.loop-link-smaller
loop-link-smaller g c =
    let old = rw c.in-Some.is at c.loop-link.invariant in
    rw (c.in-Some.is, c.before-link.ensures) (omega (arith, bound_falls (g.G.Graph.shape c.args.arcs.now.graph.now) _ _ _ (c.args.arcs.now.linked.goes_on c.in-Some.arc old.leaves.0)))

pub loop-link-preserved : goal.loop-link-preserved
loop-link-preserved g c =
    let old = rw c.in-Some.is at c.loop-link.invariant in
    let arc = c.arc-to.ensures.within old.leaves.0 in
    let last = rw (← c.before-link.ensures) at (c.args.arcs.now.linked.goes_on c.in-Some.arc old.leaves.0) in
    elim c.if-open.branch [
      | then-open+then-self-to-eq0 w ↦
          let done = w.enqueue.ensures in
          rw w.self-is (walking_found old arc _ last done.same done.enqueued c.requires.nodes (c.requires.node, c.requires.marked) w.if-open.true w.if-self-to-eq0.true)
      | else-open w ↦
          rw w.self-is
          (elim w.else-open.branch [
            | else-open-via-then-open+else-self-to-eq0 w' ↦ walking_known old arc _ last w'.if-self-to-eq0.false
            | else-open-via-else-open w' ↦ walking_shut old arc _ last w'.if-open.false
          ])
    ]
