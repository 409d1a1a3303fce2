-- What the lists in memory mean.
use Rattle.std.specs.Prelude.{false, vec_len, slice_index_or}
use Rattle.graph.specs.Digraph.{Digraph}
use Rattle.netlist.specs.Net.{Net, graph_of}
use Rattle.wiring.specs.declared.lent.Wires.{Wires}
use Rattle.wiring.specs.declared.owned.Wiring.{Wiring}
use Rattle.wiring.specs.Wires.{wired}

abbrev pub wires_graph : Wires → Digraph
wires_graph w = graph_of (wired w.gates (λ _. false) w.list.now)

abbrev pub wiring_net : Wiring → Net
wiring_net w = wired (vec_len w.pins) (λ g. slice_index_or w.pins.items g false) w.wires.items
