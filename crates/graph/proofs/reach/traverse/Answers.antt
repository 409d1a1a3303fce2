-- What `traverse` owes: the closed marks and their hops are the right ones.
use Rattle.std.proofs.Common.{rules}
use Rattle.graph.proofs.Ends.{traced}
use Rattle.graph.proofs.reach.traverse.Goals as goal

pub returns : goal.returns
returns g c =
    let done = traced c.node_count-nodes.ensures.value c.start.ensures.started c.spread.ensures.grown c.requires.marks c.requires.hops c.spread.ensures.closed in
    search (rules, done)
