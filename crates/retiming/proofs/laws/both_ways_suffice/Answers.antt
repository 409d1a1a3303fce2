use Rattle.retiming.proofs.Kept.{fewest_both_ways}
use Rattle.retiming.proofs.laws.both_ways_suffice.Goals as goal

pub returns : goal.returns
returns c = fewest_both_ways
