use Rattle.std.proofs.Common.{refl}
use Rattle.engine.proofs.Choosing.{chosen_none}
use Rattle.engine.proofs.table.Table.holders.Goals as goal

pub loop-k-init : goal.loop-k-init
loop-k-init c = chosen_none c.args.self.now.links.now c.args.depths.now 4096 refl
