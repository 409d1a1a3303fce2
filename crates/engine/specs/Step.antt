-- A set of gates by their marks, the slack around it, and lags moved over it.
use Rattle.std.specs.Prelude.{◌≡◌, ℕ, ◌+◌, ◌<◌, ◌≤◌, Bool, true, false, not, ◌&&◌, List, length, ◌==◌, nat_lt, slice_index, slice_index_or}
use Rattle.retiming.specs.declared.way.Way.{Way}
use Rattle.retiming.specs.declared.way.Way.TheVariants.{Forward, Back}
use Rattle.engine.specs.declared.link.Link.{Link}
use Rattle.engine.specs.Table.{no_link}
use Rattle.engine.specs.Rows.{holder}

-- the gates with the mark 1
abbrev pub inside : ℕ → List ℕ → ℕ → Bool
inside gates marks g = nat_lt g gates && slice_index marks g == 1

-- a mark on the side from which moves lead: forward the set, back its complement
abbrev pub beyond : Way → ℕ → Bool
beyond Forward mark = mark == 1
beyond Back mark = not (mark == 1)

-- whether the driver, the driven gate and the driven gate of the share's holder of wire k are on that side
abbrev pub from_beyond : Way → List Link → List ℕ → ℕ → Bool
from_beyond way links marks k = beyond way (slice_index marks (slice_index_or links k no_link).driver)

abbrev pub to_beyond : Way → List Link → List ℕ → ℕ → Bool
to_beyond way links marks k = beyond way (slice_index marks (slice_index_or links k no_link).driven)

-- wire k leaves the set a slack of at least s: a wire that enters the side has so many registers, and a share that drives into it is so far ahead of the wire, if that drives outside
pub record SlackAt (way : Way) (links : List Link) (depths holders marks : List ℕ) (s k : ℕ) : Type 0 where
  pub counts : to_beyond way links marks k ≡ true → from_beyond way links marks k ≡ false → s ≤ slice_index depths k
  pub shares : to_beyond way links marks (holder links holders k) ≡ true → to_beyond way links marks k ≡ false → slice_index depths k + s ≤ slice_index depths (holder links holders k)

abbrev pub Slack : Way → List Link → List ℕ → List ℕ → List ℕ → ℕ → Type 0
Slack way links depths holders marks s = (k : ℕ) → k < length links → SlackAt way links depths holders marks s k
