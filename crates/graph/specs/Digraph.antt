-- A directed graph as a value: so many nodes and arcs, and of each arc its two ends and whether it is open.
use Rattle.std.specs.Prelude.{◌≡◌, ℕ, ◌<◌, Bool}

pub record Digraph : Type 0 where
  pub nodes : ℕ
  pub arcs : ℕ
  pub from : ℕ → ℕ
  pub to : ℕ → ℕ
  pub opens : ℕ → Bool

-- arc a runs from u to v, both nodes of g, and is open where o is true
pub record Arc (g : Digraph) (a u v : ℕ) (o : Bool) : Type 0 where
  pub leaves : u ≡ g.from a
  pub enters : v ≡ g.to a
  pub open_is : o ≡ g.opens a
  pub from_node : u < g.nodes
  pub to_node : v < g.nodes
