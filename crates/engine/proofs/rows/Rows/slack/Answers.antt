use Rattle.std.proofs.Common.{arith}
use Rattle.engine.proofs.Slacks.{slack_more}
use Rattle.engine.proofs.rows.Rows.slack.Goals as goal

pub loop-k-preserved : goal.loop-k-preserved
loop-k-preserved c =
    let rows = c.args.self.now in
    let old = c.loop-k.invariant in
    let all = slack_more c.args.way rows.table.links.now rows.depths rows.holders c.args.marks.now c.loop-k.least c.slack_at.result c.loop-k.k old.2 c.slack_at.ensures.slack in
    rw c.min-least.ensures (omega (arith, old.0, c.slack_at.ensures.some), omega (arith, old.1), all)
