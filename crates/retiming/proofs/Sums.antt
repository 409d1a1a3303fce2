-- Sums over the numbers below a bound: of sums and products, and where two of them agree.
use Rattle.std.proofs.Common.{◌≡◌, ℕ, zero, suc, ◌+◌, ◌*◌, ◌<◌, ◌≤◌, cond, ◌&&◌, eqb, sym, refl, ◌∙◌, subst, inl, inr, mul_comm, add-mul, mul-add, arith}
use Rattle.std.proofs.lemmas.Bool.{cases_eq, eq-eqb, ne_eqb, and_left, and_right}
use Rattle.graph.specs.Sums.{total}
use Rattle.graph.proofs.Totals.{total_same, total_le, total_zero, total_only}

pub total_add : (f g : ℕ → ℕ) (n : ℕ) → total (λ k. f k + g k) n ≡ total f n + total g n
total_add f g zero = refl
total_add f g (suc n) = omega (arith, total_add f g n)

pub total_add_three : (f g h : ℕ → ℕ) (n : ℕ) → total (λ k. f k + g k + h k) n ≡ total f n + total g n + total h n
total_add_three f g h n = omega (arith, total_add (λ k. f k + g k) h n, total_add f g n)

pub total_times : (f : ℕ → ℕ) (c n : ℕ) → total (λ k. f k * c) n ≡ total f n * c
total_times f c zero = omega arith
total_times f c (suc n) = omega (arith, total_times f c n, add-mul (total f n) (f n) c)

-- entry by entry f is at most g, and all in all it is not less
pub total_tight : (f g : ℕ → ℕ) (n : ℕ) → ((k : ℕ) → k < n → f k ≤ g k) → total g n ≤ total f n → (k : ℕ) → k < n → f k ≡ g k
total_tight f g zero below above k h = absurd (omega arith)
total_tight f g (suc n) below above k h =
    let front = total_le f g n (λ j l. below j (omega arith)) in
    let last = below n (omega arith) in
    elim (cases_eq k n) [
      | inl here ↦ subst (λ (j : ℕ). f j ≡ g j) (sym here) (omega arith)
      | inr other ↦ total_tight f g n (λ j l. below j (omega arith)) (omega arith) k (omega arith)
    ]

pub total_part : (f : ℕ → ℕ) (n k : ℕ) → k < n → f k ≤ total f n
total_part f zero k h = absurd (omega arith)
total_part f (suc n) k h =
    elim (cases_eq k n) [
      | inl here ↦ subst (λ (j : ℕ). f j ≤ total f n + f n) (sym here) (omega arith)
      | inr other ↦ omega (arith, total_part f n k (omega arith))
    ]

pub total_parts : (f : ℕ → ℕ) (n j k : ℕ) → j < n → k < n → (j ≡ k → ⊥) → f j + f k ≤ total f n
total_parts f zero j k hj hk apart = absurd (omega arith)
total_parts f (suc n) j k hj hk apart =
    elim (cases_eq j n) [
      | inl here ↦ subst (λ (i : ℕ). f i + f k ≤ total f n + f n) (sym here) (omega (arith, total_part f n k (omega arith)))
      | inr other ↦ elim (cases_eq k n) [
        | inl here ↦ subst (λ (i : ℕ). f j + f i ≤ total f n + f n) (sym here) (omega (arith, total_part f n j (omega arith)))
        | inr other' ↦ omega (arith, total_parts f n j k (omega arith) (omega arith) apart)
      ]
    ]

-- entry by entry f is at most g, and at i it is less by d
pub total_gap : (f g : ℕ → ℕ) (n i d : ℕ) → ((k : ℕ) → k < n → f k ≤ g k) → i < n → f i + d ≤ g i → total f n + d ≤ total g n
total_gap f g zero i d below within less = absurd (omega arith)
total_gap f g (suc n) i d below within less =
    let last = below n (omega arith) in
    elim (cases_eq i n) [
      | inl here ↦ let top : f n + d ≤ g n = subst (λ (j : ℕ). f j + d ≤ g j) here less in omega (arith, total_le f g n (λ k l. below k (omega arith)))
      | inr other ↦ omega (arith, total_gap f g n i d (λ k l. below k (omega arith)) (omega arith) less)
    ]

-- an entry for each number, counted at the one place that the number has
module _ (places : ℕ) (place : ℕ → ℕ) where
  spot : (x : ℕ) (g : ℕ → ℕ) (p : ℕ) → p < places → total (λ v. g v * cond (eqb p v) x 0) places ≡ g p * x
  spot x g p within =
      total_only (λ v. g v * cond (eqb p v) x 0) places p within (λ v _ other. rw (ne_eqb p v (λ e. other (sym e))) (omega arith))
      ∙ rw (eq-eqb p p refl)

  pub total_swap : (x g : ℕ → ℕ) (n : ℕ) → ((k : ℕ) → k < n → place k < places) → total (λ k. x k * g (place k)) n ≡ total (λ v. g v * total (λ k. cond (eqb (place k) v) (x k) 0) n) places
  total_swap x g zero within = sym (total_zero (λ v. g v * 0) places (λ v _. omega arith))
  total_swap x g (suc n) within =
      let old = λ (v : ℕ). total (λ k. cond (eqb (place k) v) (x k) 0) n in
      let new = λ (v : ℕ). cond (eqb (place n) v) (x n) 0 in
      let split = total_same (λ v. g v * (old v + new v)) (λ v. g v * old v + g v * new v) places (λ v _. mul-add (g v) (old v) (new v)) ∙ total_add (λ v. g v * old v) (λ v. g v * new v) places in
      omega (arith, total_swap x g n (λ k l. within k (omega arith)), split, spot (x n) g (place n) (within n (omega arith)), mul_comm (x n) (g (place n)))

-- an entry for each number, counted at the one row and column that the number has
module _ (rows columns : ℕ) (row column : ℕ → ℕ) where
  cell : (x p q : ℕ) → p < rows → q < columns → total (λ g. total (λ m. cond (eqb p g && eqb q m) x 0) columns) rows ≡ x
  cell x p q hp hq =
      total_only (λ g. total (λ m. cond (eqb p g && eqb q m) x 0) columns) rows p hp (λ g _ other. total_zero _ columns (λ m _. rw (and_left _ (eqb q m) (ne_eqb p g (λ e. other (sym e))))))
      ∙ total_only (λ m. cond (eqb p p && eqb q m) x 0) columns q hq (λ m _ other. rw (and_right (eqb p p) _ (ne_eqb q m (λ e. other (sym e)))))
      ∙ rw (eq-eqb p p refl, eq-eqb q q refl)

  pub total_cells : (x : ℕ → ℕ) (n : ℕ) → ((k : ℕ) → k < n → row k < rows) → ((k : ℕ) → k < n → column k < columns) → total x n ≡ total (λ g. total (λ m. total (λ k. cond (eqb (row k) g && eqb (column k) m) (x k) 0) n) columns) rows
  total_cells x zero hr hc = sym (total_zero _ rows (λ g _. total_zero _ columns (λ m _. refl)))
  total_cells x (suc n) hr hc =
      let old = λ (g m : ℕ). total (λ k. cond (eqb (row k) g && eqb (column k) m) (x k) 0) n in
      let new = λ (g m : ℕ). cond (eqb (row n) g && eqb (column n) m) (x n) 0 in
      let inner = total_same (λ g. total (λ m. old g m + new g m) columns) (λ g. total (old g) columns + total (new g) columns) rows (λ g _. total_add (old g) (new g) columns) in
      let outer = total_add (λ g. total (old g) columns) (λ g. total (new g) columns) rows in
      omega (arith, total_cells x n (λ k l. hr k (omega arith)) (λ k l. hc k (omega arith)), inner, outer, cell (x n) (row n) (column n) (hr n (omega arith)) (hc n (omega arith)))
