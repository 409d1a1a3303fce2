-- Sums and greatest numbers below a bound, as chains over a range give them.
use Rattle.std.proofs.Common.{◌≡◌, ℕ, zero, suc, ◌+◌, max, Bool, cond, sym, ap, ◌∙◌, add-zero, add-one, zero-add, arith}
use Rattle.std.proofs.lemmas.List.Sums.{sum_by-cons}
use Rattle.std.specs.List.{range_with_len, sum_by, fold}
use Rattle.graph.specs.Sums.{total}
use Rattle.netlist.specs.Tally.{greatest}

module _ (f : ℕ → ℕ) where
  total_from : (a n : ℕ) → sum_by f (range_with_len a n) + total f a ≡ total f (a + n)
  total_from a zero = omega (arith, ap (total f) (add-zero a))
  total_from a (suc n) =
      let cons : sum_by f (range_with_len a (suc n)) ≡ f a + sum_by f (range_with_len (a + 1) n) = sum_by-cons f a (range_with_len (a + 1) n) in
      let more : (a + 1) + n ≡ a + suc n = omega arith in
      let one : total f (a + 1) ≡ total f a + f a = ap (total f) (add-one a) in
      omega (arith, cons, one, total_from (a + 1) n, ap (total f) more)

  pub total_range : (n : ℕ) → sum_by f (range_with_len 0 n) ≡ total f n
  total_range n = omega (arith, total_from 0 n, ap (total f) (zero-add n))

module _ (p : ℕ → Bool) (f : ℕ → ℕ) where
  -- f k where k passes the test, and else 0
  abbrev pub where_passed : ℕ → ℕ
  where_passed k = cond (p k) (f k) 0

  -- one more of those numbers, into the two greatest that are kept in turn
  abbrev pub taken : ℕ × ℕ → ℕ → ℕ × ℕ
  taken m k = (m.1, max (where_passed k) m.0)

  most_from : (a n : ℕ) (m : ℕ × ℕ) → max m.0 m.1 ≡ greatest p f a → let end = fold taken m (range_with_len a n) in max end.0 end.1 ≡ greatest p f (a + n)
  most_from a zero m is = is ∙ ap (greatest p f) (sym (add-zero a))
  most_from a (suc n) m is =
      let more : (a + 1) + n ≡ a + suc n = omega arith in
      let next : max m.1 (max (where_passed a) m.0) ≡ greatest p f (a + 1) = rw (add-one a) (omega (arith, is)) in
      most_from (a + 1) n (taken m a) next ∙ ap (greatest p f) more

  -- the greatest of those numbers, as a fold gives it
  pub most_range : (n : ℕ) → let end = fold taken (0, 0) (range_with_len 0 n) in max end.0 end.1 ≡ greatest p f n
  most_range n = most_from 0 n (0, 0) (omega arith) ∙ ap (greatest p f) (zero-add n)
