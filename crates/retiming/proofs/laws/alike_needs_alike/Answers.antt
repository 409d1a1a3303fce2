use Rattle.retiming.proofs.Alike.{needs_alike}
use Rattle.retiming.proofs.laws.alike_needs_alike.Goals as goal

pub returns : goal.returns
returns c = needs_alike
