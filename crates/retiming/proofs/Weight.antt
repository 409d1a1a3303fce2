-- At lags 0 no more registers are needed than the counts add to.
use Rattle.std.proofs.Common.{◌≡◌, ℕ, zero, suc, ◌<◌, ◌≤◌, pos, arith}
use Rattle.graph.specs.Sums.{total}
use Rattle.graph.proofs.Totals.{total_same}
use Rattle.netlist.specs.Lags.{under, needs}
use Rattle.netlist.specs.Net.{Net}
use Rattle.netlist.specs.Tally.{Marking}
use Rattle.netlist.proofs.Tallies.{tally_upto, tally_none, tally_more, tally_all}
use Rattle.retiming.specs.Nearest.{Sound}

upto_le : (n : Net) (mark : Marking) (k : ℕ) → ((j : ℕ) → j < k → (n.driver j < n.gates) × (mark (n.driver j) (n.driven j) j < 4096)) → tally_upto n mark k ≤ total n.count k
upto_le n mark zero fit = omega (arith, tally_none n mark)
upto_le n mark (suc k) fit = omega (arith, upto_le n mark k (λ j h. fit j (omega arith)), tally_more n mark k (fit k (omega arith)).0 (fit k (omega arith)).1)

pub needs_le_weight : (n : Net) (mark : Marking) → Sound n mark → needs n mark (λ _. pos 0) ≤ total n.count n.wires
needs_le_weight n mark sound =
    let still = total_same (under n (λ _. pos 0)).count n.count n.wires (λ k _. unmoved k) in
    omega (arith, tally_all (under n (λ _. pos 0)) mark, upto_le (under n (λ _. pos 0)) mark n.wires (λ j h. (sound.drivers j h, sound.marks j h)), still)
  where
    unmoved : (k : ℕ) → (under n (λ _. pos 0)).count k ≡ n.count k
    unmoved k = omega arith
