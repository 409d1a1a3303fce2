use Rattle.std.proofs.Common.{ap, ◌∙◌, arith}
use Rattle.engine.proofs.Needed.{held_sum, held_needs}
use Rattle.engine.proofs.table.Table.needed.Goals as goal

pub returns : goal.returns
returns c lags row deeps holding =
    let table = c.args.self.now in
    let depths = c.args.depths.now in
    let holders = c.args.holders.now in
    c.loop-k.invariant.0 ∙ ap (held_sum table.links.now depths holders) (omega arith) ∙ held_needs table.gates table.links.now lags depths holders row table.tabled deeps holding
