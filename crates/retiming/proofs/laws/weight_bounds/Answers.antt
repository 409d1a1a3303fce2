use Rattle.retiming.proofs.Weight.{needs_le_weight}
use Rattle.retiming.proofs.laws.weight_bounds.Goals as goal

pub returns : goal.returns
returns c = needs_le_weight
