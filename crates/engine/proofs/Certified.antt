-- A table within the limits is sound, and the holders of shares with their flows are a certificate.
use Rattle.std.proofs.Common.{◌≡◌, ℕ, ◌<◌, ◌≤◌, true, cond, eqb, List, length, get_or, ℤ, sym, refl, ap, ◌∙◌, subst, arith}
use Rattle.std.proofs.lemmas.Bool.{cond-true, cond-false, cond_both, and_parts, and_from, eqb-true, eq-eqb, ne_eqb}
use Rattle.graph.specs.Sums.{total}
use Rattle.graph.proofs.Totals.{total_only}
use Rattle.netlist.specs.Lags.{under, natural}
use Rattle.retiming.specs.Nearest.{Sound}
use Rattle.retiming.specs.Witness.{bundled, Certificate}
use Rattle.engine.specs.declared.link.Link.{Link}
use Rattle.engine.specs.Rows.{deep, Depths, holder, shares, flows, Holding}
use Rattle.engine.specs.Table.{table, bundles, lags_of, Tabled}
use Rattle.engine.proofs.Holders.{shares_holder}

pub table_sound : (gates : ℕ) (links : List Link) → Tabled gates links → Sound (table gates links) (bundles links)
table_sound gates links tabled = record { drivers = tabled.drivers; drivens = tabled.drivens; marks = tabled.numbers }

pub depth_is : {gates : ℕ} {links : List Link} {lags : List ℤ} {depths : List ℕ} → Depths gates links lags depths → (k : ℕ) → k < length links → (under (table gates links) (lags_of lags)).count k ≡ get_or depths k 0
depth_is depths k h = sym (ap natural (depths.are k h))

module _ {gates : ℕ} {links : List Link} {depths holders row : List ℕ} (tabled : Tabled gates links) (holding : Holding links depths holders row) where
  -- a wire of the bundle of wire k
  fellow : (k j : ℕ) → bundled (deep gates links depths) (bundles links) k j ≡ true → holder links holders j ≡ holder links holders k
  fellow k j belongs = ap (λ b. get_or holders b 0) (eqb-true _ _ (and_parts _ _ belongs).1)

  single : (k : ℕ) → k < length links → total (λ j. cond (bundled (deep gates links depths) (bundles links) k j) (shares links holders j) 0) (length links) ≡ 1
  single k h =
      let i = holder links holders k in
      let same = holding.same_bundle k h in
      let inside = and_from _ _ (eq-eqb _ _ (tabled.one_driver i k (holding.is_wire k h) h same)) (eq-eqb _ _ same) in
      total_only _ (length links) i (holding.is_wire k h) (λ j _ other. outside j other)
      ∙ cond-true _ (shares links holders i) 0 inside
      ∙ cond-true {A = ℕ} _ 1 0 (eq-eqb _ _ (ap (λ b. get_or holders b 0) same))
    where
      outside : (j : ℕ) → (j ≡ holder links holders k → ⊥) → cond (bundled (deep gates links depths) (bundles links) k j) (shares links holders j) 0 ≡ 0
      outside j other = cond_both {A = ℕ} (bundled (deep gates links depths) (bundles links) k j) (shares links holders j) 0 (λ x. x ≡ 0)
          (λ belongs. cond-false {A = ℕ} _ 1 0 (ne_eqb _ _ (λ e. other (sym e ∙ fellow k j belongs))))
          (λ _. refl)

  pub holding_deep : Certificate (deep gates links depths) (bundles links) (shares links holders) (flows row)
  holding_deep = record {
    bits = λ k _. cond_both {A = ℕ} (eqb (holder links holders k) k) 1 0 (λ x. x ≤ 1) (λ _. omega arith) (λ _. omega arith);
    single = single;
    deepest = λ k j _ hj has belongs. subst (λ (i : ℕ). get_or depths j 0 ≤ get_or depths i 0) (fellow k j belongs ∙ shares_holder links holders k has) (holding.deepest j hj);
    dry = holding.dry;
  }

pub holding_certificate : (gates : ℕ) (links : List Link) (lags : List ℤ) (depths holders row : List ℕ) → Tabled gates links → Depths gates links lags depths → Holding links depths holders row → Certificate (under (table gates links) (lags_of lags)) (bundles links) (shares links holders) (flows row)
holding_certificate gates links lags depths holders row tabled deeps holding =
    let cert = holding_deep tabled holding in
    record {
      bits = cert.bits;
      single = cert.single;
      deepest = λ k j hk hj has belongs. rw (depth_is deeps j hj, depth_is deeps k hk) (cert.deepest k j hk hj has belongs);
      dry = λ k h wet. cert.dry k h (rw (depth_is deeps k h) at wet);
    }
