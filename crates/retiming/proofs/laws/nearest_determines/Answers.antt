use Rattle.retiming.proofs.Kept.{determined}
use Rattle.retiming.proofs.laws.nearest_determines.Goals as goal

pub returns : goal.returns
returns c = determined
