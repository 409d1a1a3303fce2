use Rattle.std.proofs.Common.{refl}
use Rattle.engine.proofs.Owning.{owned_none}
use Rattle.engine.proofs.check.has_one_driver.Goals as goal

pub loop-link-init : goal.loop-link-init
loop-link-init c = owned_none c.args.links.now 4096 refl
