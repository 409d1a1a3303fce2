-- The lattice law: the least and the greatest of two permitted choices of lags are permitted, and together need no more.
use Rattle.std.proofs.Common.{◌≡◌, ℕ, ◌+◌, ◌-◌, ◌<◌, ◌≤◌, min, max, Bool, true, eqb, ℤ, pos, ◌+ℤ◌, ◌-ℤ◌, ◌≤ℤ◌, ap, inl, inr, arith}
use borrow.Author.Differences.{ints, same_in}
use Rattle.std.specs.Int.{int_min, int_max}
use Rattle.std.proofs.lemmas.Int.{int_min_is, int_max_is}
use Rattle.std.proofs.lemmas.Bool.{cases_lt, and_parts, eqb-true}
use Rattle.graph.specs.Sums.{total}
use Rattle.graph.proofs.Totals.{total_le}
use Rattle.netlist.specs.Net.{Net}
use Rattle.netlist.specs.Tally.{Marking, greatest, together}
use Rattle.netlist.specs.Lags.{Lags, Permitted, under, needs}
use Rattle.netlist.proofs.Tallies.{mark_of}
use Rattle.retiming.specs.declared.way.Way.{Way}
use Rattle.retiming.specs.declared.way.Way.TheVariants.{Forward, Back}
use Rattle.retiming.specs.Nearest.{least, most}
use Rattle.retiming.proofs.Sums.{total_add}
use Rattle.retiming.proofs.Deepest.{greatest_ge, greatest_le}
use Rattle.retiming.proofs.Bundles.{tally_with}
use Rattle.retiming.proofs.Heights.{height, count_under, shifted}
use Rattle.retiming.proofs.Identity.{Shifted}
use Rattle.retiming.proofs.Needs.{mark_bound, needs_is}
use Rattle.retiming.proofs.Orders.{far, near}

-- in one bundle, whose driver is lower by e in a than in b
exchange : (p : ℕ → Bool) (a b l m : ℕ → ℕ) (n e : ℕ) → ((k : ℕ) → k < n → p k ≡ true → (l k ≤ a k) × (l k ≤ b k + e) × (m k + e ≤ max (a k) (b k + e))) → greatest p l n + greatest p m n ≤ greatest p a n + greatest p b n
exchange p a b l m n e bounds =
    let la = greatest_le p l n (greatest p a n) (λ k h t. omega (arith, bounds k h t, greatest_ge p a n k h t)) in
    let lb = greatest_le p l n (greatest p b n + e) (λ k h t. omega (arith, bounds k h t, greatest_ge p b n k h t)) in
    let mab = greatest_le p m n (max (greatest p a n - e) (greatest p b n)) (λ k h t. omega (arith, bounds k h t, greatest_ge p a n k h t, greatest_ge p b n k h t)) in
    omega arith

module _ (bound : ℕ) (n : Net) (mark : Marking) (c a d b l m : ℕ → ℕ) (cd : Shifted n c a d b) (cl : Shifted n c a l (λ v. min (a v) (b v))) (cm : Shifted n c a m (λ v. max (a v) (b v))) where
  in_bundle : (g i : ℕ) → greatest (together n mark g i) l n.wires + greatest (together n mark g i) m n.wires ≤ greatest (together n mark g i) c n.wires + greatest (together n mark g i) d n.wires
  in_bundle g i = elim (cases_lt (b g) (a g)) [
    | inl above ↦ omega (arith, exchange (together n mark g i) d c l m n.wires (a g - b g) (λ k h t. omega (arith, ends k t, cd k h, cl k h, cm k h)))
    | inr below ↦ exchange (together n mark g i) c d l m n.wires (b g - a g) (λ k h t. omega (arith, ends k t, cd k h, cl k h, cm k h))
  ]
    where
      ends : (k : ℕ) → together n mark g i k ≡ true → (a (n.driver k) ≡ a g) × (b (n.driver k) ≡ b g)
      ends k t = let e = eqb-true (n.driver k) g (and_parts _ (eqb (mark_of n mark k) i) t).0 in (ap a e, ap b e)

  pub tally_exchange : tally_with bound n mark l + tally_with bound n mark m ≤ tally_with bound n mark c + tally_with bound n mark d
  tally_exchange =
      let row = λ (x : ℕ → ℕ) (g : ℕ). total (λ i. greatest (together n mark g i) x n.wires) bound in
      let line = λ (g : ℕ). total_le (λ i. greatest (together n mark g i) l n.wires + greatest (together n mark g i) m n.wires) (λ i. greatest (together n mark g i) c n.wires + greatest (together n mark g i) d n.wires) bound (λ i _. in_bundle g i) in
      let add_in = λ (x y : ℕ → ℕ) (g : ℕ). total_add (λ i. greatest (together n mark g i) x n.wires) (λ i. greatest (together n mark g i) y n.wires) bound in
      let all = total_le (λ g. row l g + row m g) (λ g. row c g + row d g) n.gates (λ g _. omega (arith, line g, add_in l m g, add_in c d g)) in
      omega (arith, all, total_add (row l) (row m) n.gates, total_add (row c) (row d) n.gates)

count_least : (w : ℕ) (a b x y : ℤ) → pos 0 ≤ℤ ((pos w +ℤ a) -ℤ x) → pos 0 ≤ℤ ((pos w +ℤ b) -ℤ y) → pos 0 ≤ℤ ((pos w +ℤ int_min a b) -ℤ int_min x y)
count_least w a b x y p q = omega (arith, ints, int_min_is a b, int_min_is x y)

count_most : (w : ℕ) (a b x y : ℤ) → pos 0 ≤ℤ ((pos w +ℤ a) -ℤ x) → pos 0 ≤ℤ ((pos w +ℤ b) -ℤ y) → pos 0 ≤ℤ ((pos w +ℤ int_max a b) -ℤ int_max x y)
count_most w a b x y p q = omega (arith, ints, int_max_is a b, int_max_is x y)

minZ_same : (x y z : ℤ) → x ≡ z → y ≡ z → int_min x y ≡ z
minZ_same x y z p q = rw (p, q) (same_in (int_min z z) z (omega (arith, int_min_is z z)))

maxZ_same : (x y z : ℤ) → x ≡ z → y ≡ z → int_max x y ≡ z
maxZ_same x y z p q = rw (p, q) (same_in (int_max z z) z (omega (arith, int_max_is z z)))

module _ (n : Net) (fixed : ℕ → Bool) (present p q : Lags) (hp : Permitted n fixed present p) (hq : Permitted n fixed present q) where
  pub least_permitted : Permitted n fixed present (least p q)
  least_permitted = record {
    stays = λ g h e. minZ_same (p g) (q g) (present g) (hp.stays g h e) (hq.stays g h e);
    counts = λ k h. count_least (n.count k) (p (n.driven k)) (q (n.driven k)) (p (n.driver k)) (q (n.driver k)) (hp.counts k h) (hq.counts k h);
  }

  pub most_permitted : Permitted n fixed present (most p q)
  most_permitted = record {
    stays = λ g h e. maxZ_same (p g) (q g) (present g) (hp.stays g h e) (hq.stays g h e);
    counts = λ k h. count_most (n.count k) (p (n.driven k)) (q (n.driven k)) (p (n.driver k)) (q (n.driver k)) (hp.counts k h) (hq.counts k h);
  }

  pub lattice : (mark : Marking) → needs n mark (least p q) + needs n mark (most p q) ≤ needs n mark p + needs n mark q
  lattice mark =
      let low : Shifted n (under n p).count (height p q) (under n (least p q)).count (λ v. min (height p q v) (height q p v)) = λ k h. omega (arith, count_under n p k (hp.counts k h), count_under n (least p q) k (least_permitted.counts k h), int_min_is (p (n.driver k)) (q (n.driver k)), int_min_is (p (n.driven k)) (q (n.driven k))) in
      let high : Shifted n (under n p).count (height p q) (under n (most p q)).count (λ v. max (height p q v) (height q p v)) = λ k h. omega (arith, count_under n p k (hp.counts k h), count_under n (most p q) k (most_permitted.counts k h), int_max_is (p (n.driver k)) (q (n.driver k)), int_max_is (p (n.driven k)) (q (n.driven k))) in
      rw (needs_is n mark (least p q), needs_is n mark (most p q), needs_is n mark p, needs_is n mark q)
      (tally_exchange mark_bound n mark (under n p).count (height p q) (under n q).count (height q p) (under n (least p q)).count (under n (most p q)).count (shifted n fixed present p q hp hq) low high)

-- the same, of the lags farther along a way and the nearer ones
abbrev pub farther : Way → Lags → Lags → Lags
farther way p q g = far way (p g) (q g)

abbrev pub nearer : Way → Lags → Lags → Lags
nearer way p q g = near way (p g) (q g)

pub farther_permitted : (way : Way) (n : Net) (fixed : ℕ → Bool) (present p q : Lags) → Permitted n fixed present p → Permitted n fixed present q → Permitted n fixed present (farther way p q)
farther_permitted Forward = least_permitted
farther_permitted Back = most_permitted

pub nearer_permitted : (way : Way) (n : Net) (fixed : ℕ → Bool) (present p q : Lags) → Permitted n fixed present p → Permitted n fixed present q → Permitted n fixed present (nearer way p q)
nearer_permitted Forward = most_permitted
nearer_permitted Back = least_permitted

pub lattice_along : (way : Way) (n : Net) (mark : Marking) (fixed : ℕ → Bool) (present p q : Lags) → Permitted n fixed present p → Permitted n fixed present q → needs n mark (farther way p q) + needs n mark (nearer way p q) ≤ needs n mark p + needs n mark q
lattice_along Forward n mark fixed present p q hp hq = lattice n fixed present p q hp hq mark
lattice_along Back n mark fixed present p q hp hq = omega (arith, lattice n fixed present p q hp hq mark)
