-- Where open arcs lead, and what the search leaves.
use Rattle.std.specs.Prelude.{◌≡◌, ℕ, ◌<◌, ◌≤◌, true, ◌⊎◌, List, length, slice_index}
use Rattle.graph.specs.declared.fault.SearchFault.{SearchFault}
use Rattle.graph.specs.declared.fault.SearchFault.TheVariants.{ShortRow}
use Rattle.graph.specs.Digraph.{Digraph}
use Rattle.graph.specs.Sums.{total}

-- open arcs lead from a start to v; a start is reached itself
pub data Reached (g : Digraph) (Start : ℕ → Type 0) : ℕ → Type 0 where
  begin : {v : ℕ} → Start v → Reached g Start v
  along : {v : ℕ} (a : ℕ) → a < g.arcs → g.opens a ≡ true → g.to a ≡ v → Reached g Start (g.from a) → Reached g Start v

-- open arcs lead from u to v; from u to itself always
abbrev pub Leads : Digraph → ℕ → ℕ → Type 0
Leads g u v = Reached g (λ s. s ≡ u) v

-- the nodes with a nonzero byte
abbrev pub Marked : Digraph → List ℕ → ℕ → Type 0
Marked g row v = (v < g.nodes) × (0 < slice_index row v)

-- an accepted search: what each byte of the row is afterwards, and how many nodes are marked
pub record Searched (g : Digraph) (before after : List ℕ) (n : ℕ) : Type 0 where
  pub long : g.nodes ≤ length before
  pub marks : (v : ℕ) → v < g.nodes → ((slice_index after v ≡ 1) × Reached g (Marked g before) v) ⊎ ((slice_index after v ≡ 0) × (Reached g (Marked g before) v → ⊥))
  pub kept : (k : ℕ) → g.nodes ≤ k → slice_index after k ≡ slice_index before k
  pub counted : n ≡ total (λ v. slice_index after v) g.nodes

-- a refused search: the row is too short, and all is as it was
pub record Refused (g : Digraph) (before after : List ℕ) (f : SearchFault) : Type 0 where
  pub why : f ≡ ShortRow
  pub short : length before < g.nodes
  pub same : after ≡ before
