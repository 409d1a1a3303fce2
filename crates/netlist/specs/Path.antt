-- Paths along wires, and the registers that they carry.
use Rattle.std.specs.Prelude.{◌≡◌, ℕ, ◌+◌, ◌<◌, List, [], ◌∷◌}
use Rattle.netlist.specs.Net.{Net}

-- the wires ks lead from gate u to gate v, the driven gate of each being the driver of the next; gates may recur
pub data Path (n : Net) : ℕ → List ℕ → ℕ → Type 0 where
  stay : {v : ℕ} → Path n v [] v
  go : {u v : ℕ} {ks : List ℕ} (k : ℕ) → k < n.wires → n.driver k ≡ u → Path n (n.driven k) ks v → Path n u (k ∷ ks) v

-- the counts of the wires ks, added
abbrev pub carried : Net → List ℕ → ℕ
carried n [] = 0
carried n (k ∷ ks) = n.count k + carried n ks
