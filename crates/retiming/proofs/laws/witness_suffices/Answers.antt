use Rattle.retiming.proofs.Duality.{fewest}
use Rattle.retiming.proofs.laws.witness_suffices.Goals as goal

pub returns : goal.returns
returns c = fewest
