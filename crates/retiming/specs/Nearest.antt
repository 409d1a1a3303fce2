-- Lags compared gate by gate, and the fewest registers that lags moved one way need.
use Rattle.std.specs.Prelude.{◌≡◌, ℕ, ◌<◌, ◌≤◌, Bool, ℤ, ◌≤ℤ◌}
use Rattle.std.specs.Int.{int_min, int_max}
use Rattle.netlist.specs.Net.{Net}
use Rattle.netlist.specs.Tally.{Marking}
use Rattle.netlist.specs.Lags.{Lags, Permitted, needs}
use Rattle.retiming.specs.declared.way.Way.{Way}
use Rattle.retiming.specs.declared.way.Way.TheVariants.{Forward, Back}

-- the ends of wires are gates, and marks are below 4,096
pub record Sound (n : Net) (mark : Marking) : Type 0 where
  pub drivers : (k : ℕ) → k < n.wires → n.driver k < n.gates
  pub drivens : (k : ℕ) → k < n.wires → n.driven k < n.gates
  pub marks : (k : ℕ) → k < n.wires → mark (n.driver k) (n.driven k) k < 4096

-- lag x is lag y, or lies farther along the way: forward lowers lags, back raises them
abbrev pub Along : Way → ℤ → ℤ → Type 0
Along Forward x y = x ≤ℤ y
Along Back x y = y ≤ℤ x

-- each gate's lag in q is its lag in r, or lies farther along the way
abbrev pub Moved : Way → Net → Lags → Lags → Type 0
Moved way n q r = (g : ℕ) → g < n.gates → Along way (q g) (r g)

-- the lesser and the greater of two lags at each gate
abbrev pub least : Lags → Lags → Lags
least p q g = int_min (p g) (q g)

abbrev pub most : Lags → Lags → Lags
most p q g = int_max (p g) (q g)

-- no lags that are permitted and moved one way from the present ones need fewer registers than those left, and of those that need equally many these are the nearest
pub record Nearest (way : Way) (n : Net) (mark : Marking) (fixed : ℕ → Bool) (present left : Lags) (before after : ℕ) : Type 0 where
  pub permitted : Permitted n fixed present left
  pub moved : Moved way n left present
  pub before_is : before ≡ needs n mark present
  pub after_is : after ≡ needs n mark left
  pub fewest : (q : Lags) → Permitted n fixed present q → Moved way n q present → after ≤ needs n mark q
  pub nearest : (q : Lags) → Permitted n fixed present q → Moved way n q present → needs n mark q ≡ after → Moved way n q left
