use Rattle.retiming.proofs.Paths.{carried_under, carried_same}
use Rattle.retiming.proofs.laws.paths_keep.Goals as goal

pub returns : goal.returns
returns c = λ n fixed present r hr u ks v path. record { carries = carried_under n r hr.counts path; same = carried_same n r hr.counts path }
