-- What the engine's calls answer, and what they leave.
use Rattle.std.specs.Prelude.{◌≡◌, ℕ, ◌<◌, ◌≤◌, Bool, ◌⊎◌, List, length, ℤ, MatchBool, slice_index}
use Rattle.netlist.specs.Lags.{under}
use Rattle.retiming.specs.declared.way.Way.{Way}
use Rattle.retiming.specs.Nearest.{Nearest}
use Rattle.retiming.specs.Witness.{Witness}
use Rattle.engine.specs.declared.fault.TableFault.{TableFault}
use Rattle.engine.specs.declared.fault.TableFault.TheVariants.{Unfit, ShortRow}
use Rattle.engine.specs.declared.link.Link.{Link}
use Rattle.engine.specs.Fit.{Fit}
use Rattle.engine.specs.Rows.{flows}
use Rattle.engine.specs.State.{Within, Better}
use Rattle.engine.specs.Table.{table, bundles, lags_of, fixed_of}

-- the lags were moved one way to where the fewest registers are needed, as near as that can be had: so many before, so many after;
-- no count is over the latter, and a lag with the registers needed adds to no more than before, so lags and counts stay within what the counts at lags 0 add to
pub record Fewest (way : Way) (gates : ℕ) (links : List Link) (fixed : List Bool) (lags lags' : List ℤ) (before after : ℕ) : Type 0 where
  pub fit : Fit gates links fixed lags
  pub nearest : Nearest way (table gates links) (bundles links) (fixed_of fixed) (lags_of lags) (lags_of lags') before after
  pub counts : (k : ℕ) → k < length links → (under (table gates links) (lags_of lags')).count k ≤ after
  pub past : (g : ℕ) → gates ≤ g → lags_of lags' g ≡ lags_of lags g
  pub within : (bound : ℕ) → Within gates links bound lags → Within gates links bound lags'

-- the table is refused, and the lags are as they were
pub record Refused (gates : ℕ) (links : List Link) (fixed : List Bool) (lags lags' : List ℤ) (f : TableFault) : Type 0 where
  pub why : f ≡ Unfit
  pub unfit : Fit gates links fixed lags → ⊥
  pub same : lags' ≡ lags

-- no permitted lags need fewer registers, and the rows hold the witness; entries past the wires are kept
pub record Witnessed (gates : ℕ) (links : List Link) (fixed : List Bool) (lags : List ℤ) (shares₀ flows₀ shares' flows' : List ℕ) : Type 0 where
  pub witness : Witness (under (table gates links) (lags_of lags)) (bundles links) (fixed_of fixed) (flows shares') (flows flows')
  pub shares_past : (k : ℕ) → length links ≤ k → slice_index shares' k ≡ slice_index shares₀ k
  pub flows_past : (k : ℕ) → length links ≤ k → slice_index flows' k ≡ slice_index flows₀ k

-- some permitted lags need fewer, and the rows are as they were
pub record Improvable (gates : ℕ) (links : List Link) (fixed : List Bool) (lags : List ℤ) (shares₀ flows₀ shares' flows' : List ℕ) : Type 0 where
  pub better : Better gates links fixed lags lags
  pub same_shares : shares' ≡ shares₀
  pub same_flows : flows' ≡ flows₀

-- what is decided of a fit table, with rows that are long enough
pub record Decided (gates : ℕ) (links : List Link) (fixed : List Bool) (lags : List ℤ) (shares₀ flows₀ shares' flows' : List ℕ) (none_fewer : Bool) : Type 0 where
  pub fit : Fit gates links fixed lags
  pub shares_long : length links ≤ length shares₀
  pub flows_long : length links ≤ length flows₀
  pub verdict : MatchBool none_fewer (Witnessed gates links fixed lags shares₀ flows₀ shares' flows') (Improvable gates links fixed lags shares₀ flows₀ shares' flows')

-- why nothing is decided
abbrev pub Why : ℕ → List Link → List Bool → List ℤ → List ℕ → List ℕ → TableFault → Type 0
Why gates links fixed lags shares₀ flows₀ Unfit = Fit gates links fixed lags → ⊥
Why gates links fixed lags shares₀ flows₀ ShortRow = Fit gates links fixed lags × ((length shares₀ < length links) ⊎ (length flows₀ < length links))

pub record Undecided (gates : ℕ) (links : List Link) (fixed : List Bool) (lags : List ℤ) (shares₀ flows₀ shares' flows' : List ℕ) (f : TableFault) : Type 0 where
  pub why : Why gates links fixed lags shares₀ flows₀ f
  pub same_shares : shares' ≡ shares₀
  pub same_flows : flows' ≡ flows₀
