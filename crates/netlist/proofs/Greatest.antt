-- The greatest of some numbers.
use Rattle.std.proofs.Common.{◌≡◌, ℕ, zero, suc, ◌<◌, max, Bool, true, false, refl, arith}
use Rattle.netlist.specs.Tally.{greatest}

module _ (p : ℕ → Bool) (f : ℕ → ℕ) where
  pub greatest_yes : (k : ℕ) → p k ≡ true → greatest p f (suc k) ≡ max (greatest p f k) (f k)
  greatest_yes k e = rw e

  pub greatest_no : (k : ℕ) → p k ≡ false → greatest p f (suc k) ≡ greatest p f k
  greatest_no k e = rw e (omega arith)

  pub greatest_none : (n : ℕ) → ((k : ℕ) → k < n → p k ≡ false) → greatest p f n ≡ 0
  greatest_none zero e = refl
  greatest_none (suc n) e = rw (e n (omega arith)) (omega (arith, greatest_none n (λ k l. e k (omega arith))))

pub greatest_same : (p q : ℕ → Bool) (f : ℕ → ℕ) (n : ℕ) → ((k : ℕ) → k < n → p k ≡ q k) → greatest p f n ≡ greatest q f n
greatest_same p q f zero e = refl
greatest_same p q f (suc n) e = rw (e n (omega arith), greatest_same p q f n (λ k l. e k (omega arith)))
