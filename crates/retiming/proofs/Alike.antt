-- Markings that put the same wires together need the same registers.
use Rattle.std.proofs.Common.{◌≡◌, ℕ, zero, suc, ◌≤◌, sym, ◌∙◌, arith}
use Rattle.netlist.specs.Net.{Net}
use Rattle.netlist.specs.Tally.{Marking}
use Rattle.netlist.specs.Lags.{Lags, under, needs}
use Rattle.netlist.proofs.Greatest.{greatest_same}
use Rattle.netlist.proofs.Tallies.{tally_upto, tally_none, tally_more, tally_all}
use Rattle.retiming.specs.Laws.{BundleAlike}
use Rattle.retiming.specs.Nearest.{Sound}
use Rattle.retiming.specs.Witness.{bundled}

module _ (m : Net) (p q : Marking) (sound_p : Sound m p) (sound_q : Sound m q) (alike : BundleAlike m p q) where
  upto_same : (k : ℕ) → k ≤ m.wires → tally_upto m p k ≡ tally_upto m q k
  upto_same zero few = tally_none m p ∙ sym (tally_none m q)
  upto_same (suc k) few =
      let earlier = greatest_same (bundled m p k) (bundled m q k) m.count k (λ j l. alike k j (omega arith) (omega arith)) in
      omega (arith, upto_same k (omega arith), earlier, tally_more m p k (sound_p.drivers k (omega arith)) (sound_p.marks k (omega arith)), tally_more m q k (sound_q.drivers k (omega arith)) (sound_q.marks k (omega arith)))

  tally_same : tally_upto m p m.wires ≡ tally_upto m q m.wires
  tally_same = upto_same m.wires (omega arith)

pub needs_alike : (n : Net) (p q : Marking) → Sound n p → Sound n q → BundleAlike n p q → (r : Lags) → needs n p r ≡ needs n q r
needs_alike n p q sound_p sound_q alike r =
    let m = under n r in
    let over : (mark : Marking) → Sound n mark → Sound m mark = λ mark s. record { drivers = s.drivers; drivens = s.drivens; marks = s.marks } in
    tally_all m p ∙ tally_same m p q (over p sound_p) (over q sound_q) alike ∙ sym (tally_all m q)
