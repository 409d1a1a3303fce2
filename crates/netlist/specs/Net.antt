-- A netlist as a value, the graph of its wires, and rounds of wires without a register.
use Rattle.std.specs.Prelude.{◌≡◌, ℕ, ◌<◌, Bool, cond, ◌==◌}
use Rattle.graph.specs.Digraph.{Digraph}
use Rattle.graph.specs.Reach.{Leads}
use Rattle.graph.specs.Sums.{total}

pub record Net : Type 0 where
  pub gates : ℕ
  pub pinned : ℕ → Bool
  pub wires : ℕ
  pub driver : ℕ → ℕ
  pub driven : ℕ → ℕ
  pub count : ℕ → ℕ

-- how many gates are pinned
abbrev pub pins : Net → ℕ
pins n = total (λ g. cond (n.pinned g) 1 0) n.gates

-- gates are nodes, and wires are arcs, open where they carry no register
abbrev pub graph_of : Net → Digraph
graph_of n = record { nodes = n.gates; arcs = n.wires; from = n.driver; to = n.driven; opens = λ k. (n.count k == 0) }

-- wire k carries no register, and such wires lead from its driven gate back to its driver
pub record OnFreeRound (n : Net) (k : ℕ) : Type 0 where
  pub is_wire : k < n.wires
  pub empty : n.count k ≡ 0
  pub back : Leads (graph_of n) (n.driven k) (n.driver k)
