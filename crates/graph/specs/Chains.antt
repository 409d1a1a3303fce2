-- The arcs that leave one node as a chain, the latest first.
use Rattle.std.specs.Prelude.{◌≡◌, ℕ, zero, suc, ◌<◌, ◌≤◌, Option, Some, None, MatchOption, slice_index}
use Rattle.graph.specs.declared.chains.Chains.{Chains}
use Rattle.graph.specs.Digraph.{Digraph}

-- the arc that a number in a chain stands for: one more than an arc, or 0 for none
abbrev pub link_of : ℕ → Option ℕ
link_of zero = None
link_of (suc k) = Some k

-- a link names the last arc below m that leaves v, and none where there is none
abbrev pub Last : Digraph → ℕ → ℕ → Option ℕ → Type 0
Last g v m link = MatchOption link ((a : ℕ) → a < m → g.from a ≡ v → ⊥) (λ k. (k < m) × (g.from k ≡ v) × ((a : ℕ) → a < m → g.from a ≡ v → a ≤ k))

-- the chains of the arcs below m: where each node's begins, and what comes after each arc
pub record Linked (g : Digraph) (m : ℕ) (chains : Chains) : Type 0 where
  pub few : m ≤ 32768
  pub begins : (v : ℕ) → Last g v m (link_of (slice_index chains.first v))
  pub goes_on : (i : ℕ) → i < m → Last g (g.from i) i (link_of (slice_index chains.next i))
