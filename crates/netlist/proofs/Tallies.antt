-- The tally, one wire more at a time.
use Rattle.std.proofs.Common.{◌≡◌, ℕ, zero, suc, ◌+◌, ◌-◌, ◌<◌, ◌≤◌, Bool, sym, refl, ◌∙◌, arith}
use Rattle.std.proofs.lemmas.Bool.{ne_eqb, eq-eqb, and_left, and_right, and_from}
use Rattle.graph.specs.Sums.{total}
use Rattle.netlist.specs.Net.{Net}
use Rattle.netlist.specs.Tally.{Marking, greatest, together, added, tally_of}
use Rattle.netlist.proofs.Greatest.{greatest_yes, greatest_no}
use Rattle.graph.proofs.Totals.{total_same, total_zero, total_change}

-- the mark of wire k
abbrev pub mark_of : Net → Marking → ℕ → ℕ
mark_of n mark k = mark (n.driver k) (n.driven k) k

-- what gate g needs of the first k wires
abbrev pub leaving : ℕ → Net → Marking → ℕ → ℕ → ℕ
leaving bound n mark k g = total (λ m. greatest (together n mark g m) n.count k) bound

-- the tally of the first k wires
abbrev pub sofar : ℕ → Net → Marking → ℕ → ℕ
sofar bound n mark k = total (leaving bound n mark k) n.gates

module _ (bound : ℕ) (n : Net) (mark : Marking) where
  pub sofar_none : sofar bound n mark 0 ≡ 0
  sofar_none = total_zero _ n.gates (λ g _. total_zero _ bound (λ m _. refl))

  -- the greatest earlier count in the bundle of wire k
  abbrev pub before : ℕ → ℕ
  before k = greatest (together n mark (n.driver k) (mark_of n mark k)) n.count k

  bundle_more : (k : ℕ) → mark_of n mark k < bound → leaving bound n mark (suc k) (n.driver k) ≡ leaving bound n mark k (n.driver k) + (n.count k - before k)
  bundle_more k l =
      let u = n.driver k in
      let m = mark_of n mark k in
      let P : ℕ → ℕ → Bool = together n mark u in
      let yes_here = greatest_yes (P m) n.count k (and_from _ _ (eq-eqb u u refl) (eq-eqb m m refl)) in
      let change = total_change (λ j. greatest (P j) n.count (suc k)) (λ j. greatest (P j) n.count k) bound m l (λ j _ d. greatest_no (P j) n.count k (and_right _ _ (ne_eqb m j (λ e. d (sym e))))) in
      omega (arith, yes_here, change)

  pub sofar_more : (k : ℕ) → n.driver k < n.gates → mark_of n mark k < bound → sofar bound n mark (suc k) ≡ sofar bound n mark k + (n.count k - before k)
  sofar_more k d l =
      let other = λ (g : ℕ) (_ : g < n.gates) (ne : g ≡ n.driver k → ⊥). total_same _ _ bound (λ m _. greatest_no (together n mark g m) n.count k (and_left _ _ (ne_eqb (n.driver k) g (λ e. ne (sym e))))) in
      omega (arith, total_change (leaving bound n mark (suc k)) (leaving bound n mark k) n.gates (n.driver k) d other, bundle_more k l)

-- the tally of the first k wires, with marks from 0 to 4,095
unfoldable pub tally_upto : Net → Marking → ℕ → ℕ
tally_upto n mark k = sofar 4096 n mark k

module _ (n : Net) (mark : Marking) where
  pub tally_none : tally_upto n mark 0 ≡ 0
  unfolding tally_upto
  tally_none = sofar_none 4096 n mark

  pub tally_more : (k : ℕ) → n.driver k < n.gates → mark_of n mark k < 4096 → tally_upto n mark (suc k) ≡ tally_upto n mark k + (n.count k - before 4096 n mark k)
  unfolding tally_upto
  tally_more = sofar_more 4096 n mark

  pub tally_all : tally_of n mark ≡ tally_upto n mark n.wires
  unfolding tally_of tally_upto
  tally_all = refl

  pub added_all : ((k : ℕ) → k < n.wires → n.driver k < n.gates) → ((k : ℕ) → k < n.wires → mark_of n mark k < 4096) → total (added n mark) n.wires ≡ tally_of n mark
  added_all ends small = upto n.wires (omega arith) ∙ sym tally_all
    where
      upto : (k : ℕ) → k ≤ n.wires → total (added n mark) k ≡ tally_upto n mark k
      upto zero l = sym tally_none
      upto (suc k) l = omega (arith, upto k (omega arith), tally_more k (ends k (omega arith)) (small k (omega arith)))
