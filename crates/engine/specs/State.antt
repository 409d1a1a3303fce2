-- What holds between two rounds: the lags reached from the first ones, and the rows that go with them.
use Rattle.std.specs.Prelude.{◌≡◌, ℕ, ◌+◌, ◌<◌, ◌≤◌, Bool, List, ℤ, unsigned_abs}
use Rattle.netlist.specs.Lags.{Lags, Permitted, needs}
use Rattle.retiming.specs.declared.way.Way.{Way}
use Rattle.retiming.proofs.Kept.{Kept}
use Rattle.engine.specs.declared.link.Link.{Link}
use Rattle.engine.specs.Rows.{Depths, Holding}
use Rattle.engine.specs.Table.{table, bundles, lags_of, fixed_of, Standing}

-- the registers that the lags of a row need
abbrev pub needs_of : ℕ → List Link → List ℤ → ℕ
needs_of gates links lags = needs (table gates links) (bundles links) (lags_of lags)

-- each lag and the registers needed add to no more than the bound
abbrev pub Within : ℕ → List Link → ℕ → List ℤ → Type 0
Within gates links bound lags = (g : ℕ) → g < gates → unsigned_abs (lags_of lags g) + needs_of gates links lags ≤ bound

pub record State (way : Way) (gates : ℕ) (links : List Link) (fixed : List Bool) (first lags : List ℤ) (depths holders row : List ℕ) : Type 0 where
  pub standing : Standing gates links lags
  pub depths_are : Depths gates links lags depths
  pub holding : Holding links depths holders row
  pub kept : Kept way (table gates links) (bundles links) (fixed_of fixed) (lags_of first) (lags_of lags)
  pub within : (bound : ℕ) → Within gates links bound first → Within gates links bound lags
  pub past : (g : ℕ) → gates ≤ g → lags_of lags g ≡ lags_of first g

-- permitted lags that need fewer registers than those of a row
pub record Better (gates : ℕ) (links : List Link) (fixed : List Bool) (present lags : List ℤ) : Type 0 where
  pub lags_are : Lags
  pub permitted : Permitted (table gates links) (fixed_of fixed) (lags_of present) lags_are
  pub fewer : needs (table gates links) (bundles links) lags_are < needs_of gates links lags
