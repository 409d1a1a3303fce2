-- A unit carried from a gate with a surplus to one that takes it leaves one unit less over.
use Rattle.std.proofs.Common.{◌≡◌, ℕ, ◌+◌, ◌-◌, ◌<◌, ◌≤◌, Bool, true, false, eqb, ◌⊎◌, List, sym, refl, ◌∙◌, subst, inl, inr, arith}
use Rattle.std.proofs.lemmas.Bool.{cases_eq, cases_Bool, cond-true, cond-false, eq-eqb, ne_eqb, both_ways}
use Rattle.graph.proofs.Totals.{total_change}
use Rattle.retiming.specs.declared.way.Way.{Way}
use Rattle.retiming.specs.declared.way.Way.TheVariants.{Forward, Back}
use Rattle.retiming.specs.Tied.{Excess, Spent, opposite}
use Rattle.retiming.specs.Witness.{gain, cost}
use Rattle.retiming.proofs.Falls.{won, lost, excess_wins, spent_wins}
use Rattle.retiming.proofs.Units.{unit_at}
use Rattle.engine.specs.declared.link.Link.{Link}
use Rattle.engine.specs.Carried.{Carried}
use Rattle.engine.specs.Round.{Over, AllDone, surplus_at, Less}
use Rattle.engine.specs.Rows.{shares, flows}
use Rattle.engine.specs.Table.{table, fixed_of}

lacks_won : (way : Way) (x y : ℕ) → Excess (opposite way) x y → won way x y < lost way x y
lacks_won Forward x y e = e
lacks_won Back x y e = e

won_done : (way : Way) (x y : ℕ) → lost way x y ≤ won way x y → Spent (opposite way) x y
won_done Forward x y e = e
won_done Back x y e = e

at_self : (v : ℕ) → unit_at v v ≡ 1
at_self v = cond-true (eqb v v) 1 0 (eq-eqb v v refl)

at_other : (v g : ℕ) → (v ≡ g → ⊥) → unit_at v g ≡ 0
at_other v g d = cond-false (eqb v g) 1 0 (ne_eqb v g d)

module _ (way : Way) (gates : ℕ) (links : List Link) (fixed : List Bool) (holders row holders' row' : List ℕ) (s t : ℕ) (within : s < gates) (moved : Carried way gates links holders row holders' row' s t)
    (free : fixed_of fixed s ≡ false) (over : Over way gates links holders row s) (takes : (fixed_of fixed t ≡ true) ⊎ Over (opposite way) gates links holders row t) where
  abbrev w : List ℕ → List ℕ → ℕ → ℕ
  w hs fs g = won way (gain (table gates links) (shares links hs) (flows fs) g) (cost (table gates links) (shares links hs) (flows fs) g)

  abbrev l : List ℕ → List ℕ → ℕ → ℕ
  l hs fs g = lost way (gain (table gates links) (shares links hs) (flows fs) g) (cost (table gates links) (shares links hs) (flows fs) g)

  source_over : l holders row s < w holders row s
  source_over = excess_wins way _ _ over

  -- a gate that may move and takes the unit lacks one
  sink_lacks : fixed_of fixed t ≡ false → w holders row t < l holders row t
  sink_lacks f = elim takes [ inl e ↦ absurd (both_ways (fixed_of fixed t) f e) | inr e ↦ lacks_won way _ _ e ]

  apart : s ≡ t → ⊥
  apart e = elim takes [
    | inl f ↦ both_ways (fixed_of fixed t) (subst (λ (g : ℕ). fixed_of fixed g ≡ false) e free) f
    | inr o ↦ let h : l holders row t < w holders row t = subst (λ (g : ℕ). l holders row g < w holders row g) e source_over in omega (arith, h, lacks_won way _ _ o)
  ]

  at_source : surplus_at way gates links fixed holders' row' s + 1 ≡ surplus_at way gates links fixed holders row s
  at_source =
      let m = moved.moved s within in
      omega (arith, m, at_self s, at_other t s (λ e. apart (sym e)), source_over, cond-false (fixed_of fixed s) 0 (w holders' row' s - l holders' row' s) free, cond-false (fixed_of fixed s) 0 (w holders row s - l holders row s) free)

  elsewhere : (g : ℕ) → g < gates → (g ≡ s → ⊥) → surplus_at way gates links fixed holders' row' g ≡ surplus_at way gates links fixed holders row g
  elsewhere g h other = elim (cases_Bool (fixed_of fixed g)) [
    | inl f ↦ cond-true (fixed_of fixed g) 0 (w holders' row' g - l holders' row' g) f ∙ sym (cond-true (fixed_of fixed g) 0 (w holders row g - l holders row g) f)
    | inr f ↦ cond-false (fixed_of fixed g) 0 (w holders' row' g - l holders' row' g) f ∙ same f (cases_eq t g) ∙ sym (cond-false (fixed_of fixed g) 0 (w holders row g - l holders row g) f)
  ]
    where
      same : fixed_of fixed g ≡ false → (t ≡ g) ⊎ (t ≡ g → ⊥) → w holders' row' g - l holders' row' g ≡ w holders row g - l holders row g
      same f (inl e) =
          let lack : w holders row g < l holders row g = subst (λ (x : ℕ). w holders row x < l holders row x) e (sink_lacks (subst (λ (x : ℕ). fixed_of fixed x ≡ false) (sym e) f)) in
          omega (arith, moved.moved g h, at_other s g (λ d. other (sym d)), cond-true {A = ℕ} (eqb t g) 1 0 (eq-eqb t g e), lack)
      same f (inr d) = omega (arith, moved.moved g h, at_other s g (λ e. other (sym e)), at_other t g d)

  pub carried_less : Less way gates links fixed holders row holders' row'
  carried_less = record {
    fewer = omega (arith, total_change (surplus_at way gates links fixed holders' row') (surplus_at way gates links fixed holders row) gates s within elsewhere, at_source);
    against = λ done g h f. won_done way _ _ (kept done g h f (cases_eq s g) (cases_eq t g));
  }
    where
      kept : AllDone (opposite way) gates links fixed holders row → (g : ℕ) → g < gates → fixed_of fixed g ≡ false → (s ≡ g) ⊎ (s ≡ g → ⊥) → (t ≡ g) ⊎ (t ≡ g → ⊥) → l holders' row' g ≤ w holders' row' g
      kept done g h f (inl e) (inl d) = absurd (apart (e ∙ sym d))
      kept done g h f (inl e) (inr d) =
          let over_g : l holders row g < w holders row g = subst (λ (x : ℕ). l holders row x < w holders row x) e source_over in
          omega (arith, moved.moved g h, cond-true {A = ℕ} (eqb s g) 1 0 (eq-eqb s g e), at_other t g d, over_g)
      kept done g h f (inr e) (inl d) =
          let lack : w holders row g < l holders row g = subst (λ (x : ℕ). w holders row x < l holders row x) d (sink_lacks (subst (λ (x : ℕ). fixed_of fixed x ≡ false) (sym d) f)) in
          absurd (omega (arith, lack, spent_wins way _ _ (done g h f)))
      kept done g h f (inr e) (inr d) = omega (arith, moved.moved g h, at_other s g e, at_other t g d, spent_wins way _ _ (done g h f))
