-- What a path carries under lags.
use Rattle.std.proofs.Common.{◌≡◌, ℕ, ◌+◌, ◌<◌, List, pos, ◌+ℤ◌, ◌-ℤ◌, ◌≤ℤ◌, ap, arith}
use borrow.Author.Differences.{up, down, ints}
use Rattle.netlist.specs.Net.{Net}
use Rattle.netlist.specs.Lags.{Lags, lagged, under}
use Rattle.netlist.specs.Path.{Path, stay, go, carried}
use Rattle.retiming.proofs.Heights.{count_under}

module _ (n : Net) (r : Lags) (counts : (k : ℕ) → k < n.wires → pos 0 ≤ℤ lagged n r k) where
  carried_heights : {u : ℕ} {ks : List ℕ} {v : ℕ} → Path n u ks v → carried (under n r) ks + down (r v) + up (r u) ≡ carried n ks + up (r v) + down (r u)
  carried_heights stay = omega arith
  carried_heights {u} (go k wire leaves rest) = omega (arith, count_under n r k (counts k wire), carried_heights rest, ap (λ g. up (r g)) leaves, ap (λ g. down (r g)) leaves)

  -- the inner lags cancel
  pub carried_under : {u : ℕ} {ks : List ℕ} {v : ℕ} → Path n u ks v → pos (carried (under n r) ks) ≡ (pos (carried n ks) +ℤ r v) -ℤ r u
  carried_under path = omega (arith, ints, carried_heights path)

  pub carried_same : {u : ℕ} {ks : List ℕ} {v : ℕ} → Path n u ks v → r u ≡ pos 0 → r v ≡ pos 0 → carried (under n r) ks ≡ carried n ks
  carried_same {u} {v = v} path from to = omega (arith, carried_heights path, ap up from, ap down from, ap up to, ap down to)
