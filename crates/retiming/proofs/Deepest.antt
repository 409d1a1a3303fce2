-- The greatest of some numbers as a bound that is reached, and sums in which one of them has weight 1 and the others weight 0.
use Rattle.std.proofs.Common.{◌≡◌, ℕ, zero, suc, ◌*◌, ◌<◌, ◌≤◌, Bool, true, false, cond, ◌&&◌, eqb, ◌⊎◌, sym, refl, ◌∙◌, subst, inl, inr, arith}
use Rattle.std.proofs.lemmas.Bool.{cases_Bool, cases_eq, cond-true, cond-false, cond_both, and_parts, and_cases, eqb-true, eqb-false}
use Rattle.graph.specs.Sums.{total}
use Rattle.graph.proofs.Totals.{total_only, total_zero}
use Rattle.netlist.specs.Tally.{greatest}
use Rattle.netlist.proofs.Greatest.{greatest_yes, greatest_no}
use Rattle.retiming.proofs.Sums.{total_parts}

module _ (p : ℕ → Bool) (f : ℕ → ℕ) where
  pub greatest_ge : (n k : ℕ) → k < n → p k ≡ true → f k ≤ greatest p f n
  greatest_ge zero k within passes = absurd (omega arith)
  greatest_ge (suc n) k within passes =
      elim (cases_eq k n) [
        | inl here ↦ omega (arith, greatest_yes p f n (subst (λ (j : ℕ). p j ≡ true) here passes), subst (λ (j : ℕ). f k ≡ f j) here refl)
        | inr other ↦ omega (arith, greatest_ge n k (omega arith) passes)
      ]

  pub greatest_le : (n b : ℕ) → ((k : ℕ) → k < n → p k ≡ true → f k ≤ b) → greatest p f n ≤ b
  greatest_le zero b below = omega arith
  greatest_le (suc n) b below =
      let front = greatest_le n b (λ k l. below k (omega arith)) in
      elim (cases_Bool (p n)) [
        | inl passes ↦ omega (arith, greatest_yes p f n passes, below n (omega arith) passes)
        | inr fails ↦ omega (arith, greatest_no p f n fails)
      ]

pub greatest_agree : (p : ℕ → Bool) (f g : ℕ → ℕ) (n : ℕ) → ((k : ℕ) → k < n → f k ≡ g k) → greatest p f n ≡ greatest p g n
greatest_agree p f g zero same = refl
greatest_agree p f g (suc n) same = rw (same n (omega arith), greatest_agree p f g n (λ k l. same k (omega arith)))

-- some number below n passes the test, or none does
pub some_or_none : (p : ℕ → Bool) (n : ℕ) → ((k : ℕ) × (k < n) × (p k ≡ true)) ⊎ ((k : ℕ) → k < n → p k ≡ false)
some_or_none p zero = inr (λ k h. absurd (omega arith))
some_or_none p (suc n) =
    elim (cases_Bool (p n)) [
      | inl passes ↦ inl (n, omega arith, passes)
      | inr fails ↦ elim (some_or_none p n) [
        | inl found ↦ inl (found.0, omega (arith, found.1), found.2)
        | inr none ↦ inr (λ k h. elim (cases_eq k n) [ inl here ↦ subst (λ (j : ℕ). p j ≡ false) (sym here) fails | inr other ↦ none k (omega arith) ])
      ]
    ]

-- weights of 0 and 1 that come to 1 among the numbers that pass
module _ (p : ℕ → Bool) (s : ℕ → ℕ) (n : ℕ) (one : total (λ k. cond (p k) (s k) 0) n ≡ 1) where
  pub weighed_is : (f : ℕ → ℕ) (k : ℕ) → k < n → p k ≡ true → s k ≡ 1 → total (λ j. cond (p j) (s j * f j) 0) n ≡ f k
  weighed_is f k within passes picked =
      let here : cond (p k) (s k) 0 ≡ 1 = cond-true (p k) (s k) 0 passes ∙ picked in
      let rest = λ (j : ℕ) (l : j < n) (other : j ≡ k → ⊥).
      let none : cond (p j) (s j) 0 ≡ 0 = omega (arith, total_parts (λ i. cond (p i) (s i) 0) n j k l within other) in
      idle j none in
      total_only (λ j. cond (p j) (s j * f j) 0) n k within rest ∙ cond-true (p k) (s k * f k) 0 passes ∙ rw picked (omega arith)
    where
      idle : (j : ℕ) → cond (p j) (s j) 0 ≡ 0 → cond (p j) (s j * f j) 0 ≡ 0
      idle j none = elim (cases_Bool (p j)) [
        | inl yes_here ↦ let zero_here : s j ≡ 0 = sym (cond-true (p j) (s j) 0 yes_here) ∙ none in cond-true (p j) (s j * f j) 0 yes_here ∙ rw zero_here (omega arith)
        | inr fails ↦ cond-false (p j) (s j * f j) 0 fails
      ]

  pub weighed_at : ((k : ℕ) → k < n → s k ≤ 1) → (k : ℕ) × (k < n) × (p k ≡ true) × (s k ≡ 1)
  weighed_at bits =
      elim (some_or_none (λ k. p k && eqb (s k) 1) n) [
        | inl found ↦ (found.0, found.1, (and_parts _ _ found.2).0, eqb-true _ _ (and_parts (p found.0) _ found.2).1)
        | inr none ↦ absurd (omega (arith, total_zero (λ k. cond (p k) (s k) 0) n (λ k h. clear k h (none k h))))
      ]
    where
      clear : (k : ℕ) → k < n → (p k && eqb (s k) 1) ≡ false → cond (p k) (s k) 0 ≡ 0
      clear k h fails = elim (and_cases (p k) _ fails) [
        | inl out ↦ cond-false (p k) (s k) 0 out
        | inr light ↦ let zero_here : s k ≡ 0 = omega (arith, bits k h, eqb-false (s k) 1 light) in rw zero_here (cond_both (p k) 0 0 (λ x. x ≡ 0) (λ _. refl) (λ _. refl))
      ]
