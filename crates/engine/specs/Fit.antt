-- When a table, its fixed gates and its lags are fit for the engine.
use Rattle.std.specs.Prelude.{◌≡◌, ℕ, ◌<◌, ◌≤◌, Bool, List, length, ℤ, pos, ◌≤ℤ◌, slice_index_or, unsigned_abs}
use Rattle.netlist.specs.Lags.{lagged}
use Rattle.engine.specs.declared.link.Link.{Link}
use Rattle.engine.specs.State.{Within}
use Rattle.engine.specs.Table.{no_link, table, lags_of, Tabled, Standing}

-- the numbers of a wire are within their limits
pub record Sized (gates : ℕ) (link : Link) : Type 0 where
  pub driver_fits : link.driver < gates
  pub driven_fits : link.driven < gates
  pub bundle_fits : link.bundle < 4096
  pub count_fits : link.count ≤ 1048575

abbrev pub AllSized : ℕ → List Link → Type 0
AllSized gates links = (k : ℕ) → k < length links → Sized gates (slice_index_or links k no_link)

-- the wires of a bundle have one driver
abbrev pub OneDriver : List Link → Type 0
OneDriver links = (j k : ℕ) → j < length links → k < length links → (slice_index_or links j no_link).bundle ≡ (slice_index_or links k no_link).bundle → (slice_index_or links j no_link).driver ≡ (slice_index_or links k no_link).driver

abbrev pub Near : ℕ → List ℤ → Type 0
Near gates lags = (g : ℕ) → g < gates → unsigned_abs (lags_of lags g) ≤ 1048575

abbrev pub Stands : ℕ → List Link → List ℤ → Type 0
Stands gates links lags = (k : ℕ) → k < length links → pos 0 ≤ℤ lagged (table gates links) (lags_of lags) k

-- the table is one, each of its gates has a place in both rows, no count under the lags is below 0, and each lag with the registers needed adds to no more than 1,048,575
pub record Fit (gates : ℕ) (links : List Link) (fixed : List Bool) (lags : List ℤ) : Type 0 where
  pub tabled : Tabled gates links
  pub fixed_long : gates ≤ length fixed
  pub standing : Standing gates links lags
  pub within : Within gates links 1048575 lags
