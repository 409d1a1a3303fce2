-- The engine's table, and the netlist and the marking that it stands for.
use Rattle.std.specs.Prelude.{◌≡◌, ℕ, ◌<◌, ◌≤◌, Bool, false, List, length, ℤ, pos, ◌≤ℤ◌, slice_index_or, unsigned_abs}
use Rattle.netlist.specs.Net.{Net}
use Rattle.netlist.specs.Tally.{Marking}
use Rattle.netlist.specs.Lags.{Lags, lagged}
use Rattle.engine.specs.declared.link.Link.{Link}

-- what stands past the end of a table
abbrev pub no_link : Link
no_link = record { driver = 0; driven = 0; count = 0; bundle = 0 }

abbrev pub table : ℕ → List Link → Net
table gates links = record {
  gates = gates;
  pinned = λ _. false;
  wires = length links;
  driver = λ k. (slice_index_or links k no_link).driver;
  driven = λ k. (slice_index_or links k no_link).driven;
  count = λ k. (slice_index_or links k no_link).count;
}

-- the mark of a wire is the number of its bundle
abbrev pub bundles : List Link → Marking
bundles links _ _ k = (slice_index_or links k no_link).bundle

abbrev pub lags_of : List ℤ → Lags
lags_of row g = slice_index_or row g (pos 0)

abbrev pub fixed_of : List Bool → ℕ → Bool
fixed_of row g = slice_index_or row g false

-- the table is within the limits, the ends of wires are gates, and the wires of a bundle have one driver
pub record Tabled (gates : ℕ) (links : List Link) : Type 0 where
  pub few_gates : gates ≤ 1024
  pub few_links : length links ≤ 4096
  pub drivers : (k : ℕ) → k < length links → (slice_index_or links k no_link).driver < gates
  pub drivens : (k : ℕ) → k < length links → (slice_index_or links k no_link).driven < gates
  pub numbers : (k : ℕ) → k < length links → (slice_index_or links k no_link).bundle < 4096
  pub one_driver : (j k : ℕ) → j < length links → k < length links → (slice_index_or links j no_link).bundle ≡ (slice_index_or links k no_link).bundle → (slice_index_or links j no_link).driver ≡ (slice_index_or links k no_link).driver
  pub counts : (k : ℕ) → k < length links → (slice_index_or links k no_link).count ≤ 1048575

-- the lags are near 0, and no count under them is below 0
pub record Standing (gates : ℕ) (links : List Link) (lags : List ℤ) : Type 0 where
  pub long : gates ≤ length lags
  pub near : (g : ℕ) → g < gates → unsigned_abs (lags_of lags g) ≤ 1048575
  pub counts : (k : ℕ) → k < length links → pos 0 ≤ℤ lagged (table gates links) (lags_of lags) k
