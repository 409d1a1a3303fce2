-- The theorems on lags with the fewest registers.
use Rattle.std.specs.Prelude.{◌≡◌, ℕ, ◌+◌, ◌<◌, ◌≤◌, Bool, List, pos, ◌+ℤ◌, ◌-ℤ◌}
use Rattle.graph.specs.Sums.{total}
use Rattle.netlist.specs.Net.{Net}
use Rattle.netlist.specs.Tally.{Marking}
use Rattle.netlist.specs.Lags.{Lags, Permitted, under, needs}
use Rattle.netlist.specs.Path.{Path, carried}
use Rattle.retiming.specs.declared.way.Way.{Way}
use Rattle.retiming.specs.Nearest.{Sound, least, most, Nearest}
use Rattle.retiming.specs.Tied.{opposite}
use Rattle.retiming.specs.Witness.{Witness, bundled}

-- where lags have a witness, no permitted lags need fewer registers
abbrev pub WitnessSuffices : Type 0
WitnessSuffices = (n : Net) (mark : Marking) (fixed : ℕ → Bool) (present r : Lags) (share flow : ℕ → ℕ) → Sound n mark → Permitted n fixed present r → Witness (under n r) mark fixed share flow →
    (q : Lags) → Permitted n fixed present q → needs n mark r ≤ needs n mark q

-- the least and the greatest of two permitted choices of lags are permitted, and together they need no more
pub record LatticeLaw (n : Net) (mark : Marking) (fixed : ℕ → Bool) (present p q : Lags) : Type 0 where
  pub least_permitted : Permitted n fixed present (least p q)
  pub most_permitted : Permitted n fixed present (most p q)
  pub no_more : needs n mark (least p q) + needs n mark (most p q) ≤ needs n mark p + needs n mark q

abbrev pub LatticeHolds : Type 0
LatticeHolds = (n : Net) (mark : Marking) (fixed : ℕ → Bool) (present p q : Lags) → Permitted n fixed present p → Permitted n fixed present q → LatticeLaw n mark fixed present p q

-- under lags a path carries what it carried below plus the lag of its last gate less the lag of its first; so between two gates with lag 0 it carries the same
pub record PathLaw (n : Net) (r : Lags) (u : ℕ) (ks : List ℕ) (v : ℕ) : Type 0 where
  pub carries : pos (carried (under n r) ks) ≡ (pos (carried n ks) +ℤ r v) -ℤ r u
  pub same : r u ≡ pos 0 → r v ≡ pos 0 → carried (under n r) ks ≡ carried n ks

abbrev pub PathsKeep : Type 0
PathsKeep = (n : Net) (fixed : ℕ → Bool) (present r : Lags) → Permitted n fixed present r → (u : ℕ) (ks : List ℕ) (v : ℕ) → Path n u ks v → PathLaw n r u ks v

-- after the fewest one way and then the fewest the other way, no permitted lags need fewer
abbrev pub BothWaysSuffice : Type 0
BothWaysSuffice = (way : Way) (n : Net) (mark : Marking) (fixed : ℕ → Bool) (first middle last : Lags) (a b c d : ℕ) → Nearest way n mark fixed first middle a b → Nearest (opposite way) n mark fixed middle last c d →
    (q : Lags) → Permitted n fixed first q → needs n mark last ≤ needs n mark q

-- the same lags at each gate, and the same two answers
pub record SameMove (gates : ℕ) (left left' : Lags) (before after before' after' : ℕ) : Type 0 where
  pub lags : (g : ℕ) → g < gates → left g ≡ left' g
  pub before_same : before ≡ before'
  pub after_same : after ≡ after'

-- the nearest lags and the answers are determined
abbrev pub NearestDetermines : Type 0
NearestDetermines = (way : Way) (n : Net) (mark : Marking) (fixed : ℕ → Bool) (present left left' : Lags) (a b c d : ℕ) → Nearest way n mark fixed present left a b → Nearest way n mark fixed present left' c d → SameMove n.gates left left' a b c d

-- two markings put the same wires together
abbrev pub BundleAlike : Net → Marking → Marking → Type 0
BundleAlike n p q = (j k : ℕ) → j < n.wires → k < n.wires → bundled n p j k ≡ bundled n q j k

-- markings that put the same wires together need the same registers, under all lags
abbrev pub AlikeNeedsAlike : Type 0
AlikeNeedsAlike = (n : Net) (p q : Marking) → Sound n p → Sound n q → BundleAlike n p q → (r : Lags) → needs n p r ≡ needs n q r

-- at lags 0 no more registers are needed than all counts added
abbrev pub WeightBounds : Type 0
WeightBounds = (n : Net) (mark : Marking) → Sound n mark → needs n mark (λ _. pos 0) ≤ total n.count n.wires
