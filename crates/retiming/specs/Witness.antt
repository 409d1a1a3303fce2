-- Shares and flows on the wires of a netlist: the certificate that every search keeps, and the witness that no fewer registers do.
use Rattle.std.specs.Prelude.{◌≡◌, ℕ, ◌+◌, ◌<◌, ◌≤◌, Bool, true, false, cond, ◌==◌}
use Rattle.graph.specs.Sums.{total}
use Rattle.netlist.specs.Net.{Net}
use Rattle.netlist.specs.Tally.{Marking, together}

-- the sum of f over the wires that drive gate g
abbrev pub into : Net → (ℕ → ℕ) → ℕ → ℕ
into m f g = total (λ k. cond (m.driven k == g) (f k) 0) m.wires

-- the sum of f over the wires that gate g drives
abbrev pub out_of : Net → (ℕ → ℕ) → ℕ → ℕ
out_of m f g = total (λ k. cond (m.driver k == g) (f k) 0) m.wires

-- wire j belongs to the bundle of wire k
abbrev pub bundled : Net → Marking → ℕ → ℕ → Bool
bundled m mark k j = together m mark (m.driver k) (mark (m.driver k) (m.driven k) k) j

-- each bundle has one share, on a wire with its greatest count; a flow runs only on wires without a register
pub record Certificate (m : Net) (mark : Marking) (share flow : ℕ → ℕ) : Type 0 where
  pub bits : (k : ℕ) → k < m.wires → share k ≤ 1
  pub single : (k : ℕ) → k < m.wires → total (λ j. cond (bundled m mark k j) (share j) 0) m.wires ≡ 1
  pub deepest : (k j : ℕ) → k < m.wires → j < m.wires → share k ≡ 1 → bundled m mark k j ≡ true → m.count j ≤ m.count k
  pub dry : (k : ℕ) → k < m.wires → 0 < m.count k → flow k ≡ 0

-- the surplus of gate g is its gain less its cost
abbrev pub gain : Net → (ℕ → ℕ) → (ℕ → ℕ) → ℕ → ℕ
gain m share flow g = into m share g + out_of m flow g

abbrev pub cost : Net → (ℕ → ℕ) → (ℕ → ℕ) → ℕ → ℕ
cost m share flow g = out_of m share g + into m flow g

-- a certificate without surplus at the gates that may move: no permitted lags need fewer registers
pub record Witness (m : Net) (mark : Marking) (fixed : ℕ → Bool) (share flow : ℕ → ℕ) : Type 0 where
  pub certificate : Certificate m mark share flow
  pub small : (k : ℕ) → k < m.wires → flow k ≤ 4096
  pub balanced : (g : ℕ) → g < m.gates → fixed g ≡ false → gain m share flow g ≡ cost m share flow g
