-- The hops that a trace leaves: how many arcs it took to reach each marked node.
use Rattle.std.specs.Prelude.{◌≡◌, ℕ, ◌+◌, ◌<◌, ◌≤◌, true, ◌⊎◌, List, length, slice_index}
use Rattle.graph.specs.declared.fault.SearchFault.{SearchFault}
use Rattle.graph.specs.declared.fault.SearchFault.TheVariants.{ShortRow}
use Rattle.graph.specs.Digraph.{Digraph}
use Rattle.graph.specs.Reach.{Marked, Searched}

-- an open arc enters v from a node with the mark 1 that has one hop less
abbrev pub Entered : Digraph → List ℕ → List ℕ → ℕ → Type 0
Entered g marks hops v =
    (a : ℕ) × (a < g.arcs) × (g.opens a ≡ true) × (g.to a ≡ v) × (g.from a < g.nodes) × (slice_index marks (g.from a) ≡ 1) × (slice_index hops v ≡ slice_index hops (g.from a) + 1)

-- v is a start with the hop 0, or is entered from a marked node with one hop less
abbrev pub Hop : Digraph → List ℕ → List ℕ → List ℕ → ℕ → Type 0
Hop g before after hops v = ((slice_index hops v ≡ 0) × Marked g before v) ⊎ Entered g after hops v

-- an accepted trace: an accepted search, and what each hop of a marked node is afterwards
pub record Traced (g : Digraph) (marks hops marks' hops' : List ℕ) (n : ℕ) : Type 0 where
  pub searched : Searched g marks marks' n
  pub long : g.nodes ≤ length hops
  pub hop : (v : ℕ) → v < g.nodes → slice_index marks' v ≡ 1 → Hop g marks marks' hops' v
  pub kept : (k : ℕ) → g.nodes ≤ k → slice_index hops' k ≡ slice_index hops k

-- a refused trace: one of the rows is too short, and all is as it was
pub record Untraced (g : Digraph) (marks hops marks' hops' : List ℕ) (f : SearchFault) : Type 0 where
  pub why : f ≡ ShortRow
  pub short : (length marks < g.nodes) ⊎ (length hops < g.nodes)
  pub same_marks : marks' ≡ marks
  pub same_hops : hops' ≡ hops
