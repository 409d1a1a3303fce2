-- What `start` owes: the queue has room for each start, and each way past a node goes on with the starts.
use Rattle.std.proofs.Common.{arith}
use Rattle.graph.proofs.Queueing.{queue_le}
use Rattle.graph.proofs.Starts.{starting_none, starting_skip, starting_more}
use Rattle.graph.proofs.reach.Front.start.Goals as goal
use Rattle.graph.proofs.reach.Front.start.Goals.{then-self-v-ne0, else-self-v-ne0}

pub loop-v-init : goal.loop-v-init
loop-v-init c = starting_none _ c.requires.empty

pub enqueue-requires-clause-room : goal.enqueue-requires-clause-room
enqueue-requires-clause-room c = omega (arith, queue_le c.loop-v.invariant.queued, c.args.self.now.few)

pub loop-v-preserved : goal.loop-v-preserved
loop-v-preserved c =
    let old = c.loop-v.invariant in
    elim c.if-self-v-ne0.branch [
      | then-self-v-ne0 w ↦
          let done = w.enqueue.ensures in
          rw w.self-is (starting_more old done.same done.enqueued (omega (arith, w.if-self-v-ne0.true)) (omega (arith, old.same.nodes)))
      | else-self-v-ne0 w ↦ rw w.self-is (starting_skip old w.if-self-v-ne0.false)
    ]
