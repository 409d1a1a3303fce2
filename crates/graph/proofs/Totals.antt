-- Sums over the numbers below a bound: entry by entry, with one entry changed, and of entries that are 0 or 1.
use Rattle.std.proofs.Common.{◌≡◌, ℕ, zero, suc, ◌+◌, ◌<◌, ◌≤◌, sym, refl, subst, inl, inr, arith}
use Rattle.std.proofs.lemmas.Bool.{cases_eq}
use Rattle.graph.specs.Sums.{total}

pub total_same : (f g : ℕ → ℕ) (n : ℕ) → ((k : ℕ) → k < n → f k ≡ g k) → total f n ≡ total g n
total_same f g zero same = refl
total_same f g (suc n) same = omega (arith, total_same f g n (λ k h. same k (omega arith)), same n (omega arith))

pub total_le : (f g : ℕ → ℕ) (n : ℕ) → ((k : ℕ) → k < n → f k ≤ g k) → total f n ≤ total g n
total_le f g zero below = omega arith
total_le f g (suc n) below = omega (arith, total_le f g n (λ k h. below k (omega arith)), below n (omega arith))

-- f and g differ at i alone
pub total_change : (f g : ℕ → ℕ) (n i : ℕ) → i < n → ((k : ℕ) → k < n → (k ≡ i → ⊥) → f k ≡ g k) → total f n + g i ≡ total g n + f i
total_change f g zero i within same = omega arith
total_change f g (suc n) i within same =
    elim (cases_eq n i) [
      | inl here ↦ subst (λ (j : ℕ). total f (suc n) + g j ≡ total g (suc n) + f j) here (omega (arith, total_same f g n (λ k h. same k (omega arith) (λ e. omega arith))))
      | inr other ↦ omega (arith, total_change f g n i (omega arith) (λ k h. same k (omega arith)), same n (omega arith) other)
    ]

pub total_bits_le : (f : ℕ → ℕ) (n : ℕ) → ((k : ℕ) → k < n → f k ≤ 1) → total f n ≤ n
total_bits_le f zero bits = omega arith
total_bits_le f (suc n) bits = omega (arith, total_bits_le f n (λ k h. bits k (omega arith)), bits n (omega arith))

pub total_bits_lt : (f : ℕ → ℕ) (n i : ℕ) → ((k : ℕ) → k < n → f k ≤ 1) → i < n → f i ≡ 0 → total f n < n
total_bits_lt f zero i bits within clear = omega arith
total_bits_lt f (suc n) i bits within clear =
    elim (cases_eq n i) [
      | inl here ↦ omega (arith, total_bits_le f n (λ k h. bits k (omega arith)), subst (λ (j : ℕ). f j ≡ 0) (sym here) clear)
      | inr other ↦ omega (arith, total_bits_lt f n i (λ k h. bits k (omega arith)) (omega arith) clear, bits n (omega arith))
    ]

pub total_zero : (f : ℕ → ℕ) (n : ℕ) → ((k : ℕ) → k < n → f k ≡ 0) → total f n ≡ 0
total_zero f zero none = refl
total_zero f (suc n) none = omega (arith, total_zero f n (λ k h. none k (omega arith)), none n (omega arith))

-- f is 0 everywhere but at i
pub total_only : (f : ℕ → ℕ) (n i : ℕ) → i < n → ((k : ℕ) → k < n → (k ≡ i → ⊥) → f k ≡ 0) → total f n ≡ f i
total_only f n i within none = omega (arith, total_change f (λ _. 0) n i within none, total_zero (λ _. 0) n (λ _ _. refl))
