-- Hops that a search leaves: an open arc leads into each marked node of a hop above 0, from a marked node one hop lower.
use Rattle.std.specs.Prelude.{◌≡◌, ℕ, ◌+◌, ◌<◌, ◌≤◌, true, ◌⊎◌, List, slice_index}
use Rattle.graph.specs.Digraph.{Digraph}

-- arc a is the last on a way to node v
pub record LastArc (g : Digraph) (marks hops : List ℕ) (v a : ℕ) : Type 0 where
  pub is_arc : a < g.arcs
  pub opened : g.opens a ≡ true
  pub enters : g.to a ≡ v
  pub inside : g.from a < g.nodes
  pub marked : slice_index marks (g.from a) ≡ 1
  pub lower : slice_index hops v ≡ slice_index hops (g.from a) + 1

abbrev pub Hopped : Digraph → List ℕ → List ℕ → ℕ → Type 0
Hopped g marks hops v = (slice_index hops v ≡ 0) ⊎ ((a : ℕ) × LastArc g marks hops v a)

abbrev pub Hops : Digraph → List ℕ → List ℕ → Type 0
Hops g marks hops = (v : ℕ) → v < g.nodes → slice_index marks v ≡ 1 → Hopped g marks hops v

-- the same of the nodes up to a hop
abbrev pub HopsTo : ℕ → Digraph → List ℕ → List ℕ → Type 0
HopsTo top g marks hops = (v : ℕ) → v < g.nodes → slice_index marks v ≡ 1 → slice_index hops v ≤ top → Hopped g marks hops v
