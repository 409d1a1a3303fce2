use Rattle.retiming.proofs.Lattice.{least_permitted, most_permitted, lattice}
use Rattle.retiming.proofs.laws.lattice_holds.Goals as goal

pub returns : goal.returns
returns c = λ n mark fixed present p q hp hq. record { least_permitted = least_permitted n fixed present p q hp hq; most_permitted = most_permitted n fixed present p q hp hq; no_more = lattice n fixed present p q hp hq mark }
