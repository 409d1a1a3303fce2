-- The engine's words, said of the rows of a table.
use Rattle.std.specs.Prelude.{List, ℤ}
use Rattle.graph.specs.Digraph.{Digraph}
use Rattle.retiming.specs.declared.way.Way.{Way}
use Rattle.engine.specs.declared.leftover.Leftover.{Leftover}
use Rattle.engine.specs.declared.rows.Rows.{Rows}
use Rattle.engine.specs.Leftover.{leftover}
use Rattle.engine.specs.Round.{AllDone, Improves}
use Rattle.engine.specs.State.{State}

-- the moves that the rows leave
abbrev pub rows_graph : Way → Rows → Digraph
rows_graph way r = leftover way r.table.gates r.table.links.now r.depths r.holders r.flows

abbrev pub leftover_of : Leftover → Digraph
leftover_of w = rows_graph w.way w.rows.now

-- the rows go with the lags, which were reached from the first ones
abbrev pub StateOf : Way → List ℤ → List ℤ → Rows → Type 0
StateOf way first lags r = State way r.table.gates r.table.links.now r.table.fixed.now first lags r.depths r.holders r.flows

-- no gate that may move has a surplus that the way moves
abbrev pub Balanced : Way → Rows → Type 0
Balanced way r = AllDone way r.table.gates r.table.links.now r.table.fixed.now r.holders r.flows

-- some set of gates is stuck
abbrev pub HasStuck : Way → Rows → Type 0
HasStuck way r = Improves way r.table.gates r.table.links.now r.table.fixed.now r.depths r.holders r.flows
