-- Two choices of lags as heights: natural numbers with the same difference at each gate.
use Rattle.std.proofs.Common.{◌≡◌, ℕ, ◌+◌, Bool, ℤ, pos, negsuc, ◌≤ℤ◌, refl, arith}
use borrow.Author.Differences.{up, down, ints, le_out}
use Rattle.netlist.specs.Net.{Net}
use Rattle.netlist.specs.Lags.{Lags, lagged, Permitted, natural, under}
use Rattle.retiming.proofs.Identity.{Shifted}

-- the height of each gate under lags p, against lags q
abbrev pub height : Lags → Lags → ℕ → ℕ
height p q v = up (p v) + down (q v)

counted : (z : ℤ) → pos 0 ≤ℤ z → (natural z ≡ up z) × (down z ≡ 0)
counted (pos m) h = (refl, refl)
counted (negsuc m) h = absurd (omega (arith, le_out (pos 0) (negsuc m) h))

pub count_under : (n : Net) (r : Lags) (k : ℕ) → pos 0 ≤ℤ lagged n r k → (under n r).count k + down (r (n.driven k)) + up (r (n.driver k)) ≡ n.count k + up (r (n.driven k)) + down (r (n.driver k))
count_under n r k h = let e = counted (lagged n r k) h in omega (arith, ints, e)

module _ (n : Net) (fixed : ℕ → Bool) (present p q : Lags) (hp : Permitted n fixed present p) (hq : Permitted n fixed present q) where
  pub shifted : Shifted n (under n p).count (height p q) (under n q).count (height q p)
  shifted k h = omega (arith, count_under n p k (hp.counts k h), count_under n q k (hq.counts k h))
