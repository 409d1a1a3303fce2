-- The engine's rows: the counts under the present lags, the wire that holds each bundle's share, and the flow on each wire.
use Rattle.std.specs.Prelude.{◌≡◌, ℕ, ◌<◌, ◌≤◌, false, cond, List, length, ℤ, pos, ◌==◌, slice_index, slice_index_or}
use Rattle.netlist.specs.Net.{Net}
use Rattle.netlist.specs.Lags.{lagged}
use Rattle.retiming.specs.Witness.{gain, cost}
use Rattle.engine.specs.declared.link.Link.{Link}
use Rattle.engine.specs.Table.{no_link, table, lags_of}

-- the table with the counts of a row
abbrev pub deep : ℕ → List Link → List ℕ → Net
deep gates links depths = record {
  gates = gates;
  pinned = λ _. false;
  wires = length links;
  driver = λ k. (slice_index_or links k no_link).driver;
  driven = λ k. (slice_index_or links k no_link).driven;
  count = λ k. slice_index depths k;
}

-- the row holds the counts under the lags
pub record Depths (gates : ℕ) (links : List Link) (lags : List ℤ) (depths : List ℕ) : Type 0 where
  pub long : length links ≤ length depths
  pub are : (k : ℕ) → k < length links → pos (slice_index depths k) ≡ lagged (table gates links) (lags_of lags) k

-- the wire that holds the share of the bundle of wire k
abbrev pub holder : List Link → List ℕ → ℕ → ℕ
holder links holders k = slice_index holders (slice_index_or links k no_link).bundle

-- the share of wire k is 1 where it holds that of its bundle
abbrev pub shares : List Link → List ℕ → ℕ → ℕ
shares links holders k = cond (holder links holders k == k) 1 0

abbrev pub flows : List ℕ → ℕ → ℕ
flows row k = slice_index row k

-- each bundle's share is held by one of its wires with the greatest count, and a flow of at most 4,096 runs only on wires of count 0
pub record Holding (links : List Link) (depths holders row : List ℕ) : Type 0 where
  pub holders_long : 4096 ≤ length holders
  pub flows_long : length links ≤ length row
  pub is_wire : (k : ℕ) → k < length links → holder links holders k < length links
  pub same_bundle : (k : ℕ) → k < length links → (slice_index_or links (holder links holders k) no_link).bundle ≡ (slice_index_or links k no_link).bundle
  pub deepest : (k : ℕ) → k < length links → slice_index depths k ≤ slice_index depths (holder links holders k)
  pub dry : (k : ℕ) → k < length links → 0 < slice_index depths k → flows row k ≡ 0
  pub small : (k : ℕ) → k < length links → flows row k ≤ 4096

-- the rows hold each gate's gain and cost
pub record Priced (gates : ℕ) (links : List Link) (holders row gains costs : List ℕ) : Type 0 where
  pub gains_long : gates ≤ length gains
  pub costs_long : gates ≤ length costs
  pub gains_are : (g : ℕ) → g < gates → slice_index gains g ≡ gain (table gates links) (shares links holders) (flows row) g
  pub costs_are : (g : ℕ) → g < gates → slice_index costs g ≡ cost (table gates links) (shares links holders) (flows row) g
