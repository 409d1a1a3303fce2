-- What lags need, as a tally over a bound that stays shut, so that no proof counts up to it.
use Rattle.std.proofs.Common.{◌≡◌, ℕ, ◌<◌, sym, refl, ◌∙◌}
use Rattle.graph.proofs.Totals.{total_same}
use Rattle.netlist.specs.Net.{Net}
use Rattle.netlist.specs.Tally.{Marking, together, tally_of}
use Rattle.netlist.specs.Lags.{Lags, under, needs}
use Rattle.retiming.specs.Nearest.{Sound}
use Rattle.retiming.proofs.Bundles.{tally_with}
use Rattle.retiming.proofs.Deepest.{greatest_agree}

pub mark_bound : ℕ
mark_bound = 4096

pub below_bound : (x : ℕ) → x < 4096 → x < mark_bound
unfolding mark_bound
below_bound x h = h

pub needs_is : (n : Net) (mark : Marking) (r : Lags) → needs n mark r ≡ tally_with mark_bound n mark (under n r).count
unfolding mark_bound tally_of
needs_is n mark r = refl

pub tally_agree : (bound : ℕ) (n : Net) (mark : Marking) (c d : ℕ → ℕ) → ((k : ℕ) → k < n.wires → c k ≡ d k) → tally_with bound n mark c ≡ tally_with bound n mark d
tally_agree bound n mark c d same = total_same _ _ n.gates (λ g _. total_same _ _ bound (λ m _. greatest_agree (together n mark g m) c d n.wires same))

-- only the lags of gates count
pub needs_agree : (n : Net) (mark : Marking) → Sound n mark → (p q : Lags) → ((g : ℕ) → g < n.gates → p g ≡ q g) → needs n mark p ≡ needs n mark q
needs_agree n mark sound p q same =
    needs_is n mark p
    ∙ tally_agree mark_bound n mark (under n p).count (under n q).count (λ k h. rw (same (n.driven k) (sound.drivens k h), same (n.driver k) (sound.drivers k h)))
    ∙ sym (needs_is n mark q)
