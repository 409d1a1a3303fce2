use Rattle.std.proofs.Common.{arith}
use Rattle.engine.proofs.Pricing.{added_none, added_all}
use Rattle.engine.proofs.rows.Rows.price.Goals as goal

pub loop-k-init : goal.loop-k-init
loop-k-init c =
    let few = c.args.self.now.table.tabled.few_gates in
    added_none _ _ _ _ _ _ (omega (arith, few)) (omega (arith, few)) c.requires.gains c.requires.costs

pub returns : goal.returns
returns c = added_all _ _ _ _ c.loop-k.k _ _ (omega arith) c.loop-k.invariant
