-- Lags of gates, and a netlist under them (Leiserson and Saxe, "Retiming synchronous circuitry").
use Rattle.std.specs.Prelude.{◌≡◌, ℕ, ◌<◌, Bool, true, ℤ, pos, negsuc, ◌+ℤ◌, ◌-ℤ◌, ◌≤ℤ◌}
use Rattle.netlist.specs.Net.{Net}
use Rattle.netlist.specs.Tally.{Marking, tally_of}

-- how many registers were moved backward over each gate
abbrev pub Lags : Type 0
Lags = ℕ → ℤ

-- the count of wire k under lags: the count below plus the driven gate's lag less the driver's
abbrev pub lagged : Net → Lags → ℕ → ℤ
lagged n r k = (pos (n.count k) +ℤ r (n.driven k)) -ℤ r (n.driver k)

-- what lags may be, where some gates are fixed at their present lags: fixed gates keep theirs, and no count is below 0
pub record Permitted (n : Net) (fixed : ℕ → Bool) (present r : Lags) : Type 0 where
  pub stays : (g : ℕ) → g < n.gates → fixed g ≡ true → r g ≡ present g
  pub counts : (k : ℕ) → k < n.wires → pos 0 ≤ℤ lagged n r k

-- the number that an integer is, where it is not below 0
abbrev pub natural : ℤ → ℕ
natural (pos m) = m
natural (negsuc m) = 0

-- the same gates, pins and wires, with the counts under lags
abbrev pub under : Net → Lags → Net
under n r = record { gates = n.gates; pinned = n.pinned; wires = n.wires; driver = n.driver; driven = n.driven; count = λ k. natural (lagged n r k) }

-- the registers that lags need
abbrev pub needs : Net → Marking → Lags → ℕ
needs n mark r = tally_of (under n r) mark
