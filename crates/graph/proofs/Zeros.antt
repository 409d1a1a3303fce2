-- Rows of zeros, of any length: what a fresh array holds.
use Rattle.std.proofs.Common.{◌≡◌, ℕ, ◌≤◌, length, get_or, replicate, inl, inr, arith}
use Rattle.std.proofs.lemmas.List.{get_or-replicate, get_or_past, length-replicate}
use Rattle.std.proofs.lemmas.Bool.{cases_lt}

pub zeros : (n k : ℕ) → get_or {A = ℕ} (replicate n 0) k 0 ≡ 0
zeros n k = elim (cases_lt k n) [ inl h ↦ get_or-replicate n k 0 0 h | inr h ↦ get_or_past (replicate n 0) k 0 (omega (arith, length-replicate {A = ℕ} n 0)) ]

-- k is the length of a row of n zeros
pub zeros_long : (n m k : ℕ) → k ≡ length {A = ℕ} (replicate n 0) → m ≤ n → m ≤ k
zeros_long n m k long few = omega (arith, length-replicate {A = ℕ} n 0)
