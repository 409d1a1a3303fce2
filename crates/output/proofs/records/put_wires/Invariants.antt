use Rattle.std.proofs.Common.{◌≡◌, ℕ, ◌<◌, get_or}
use Rattle.wiring.specs.Held.{wire_of}
use Rattle.wiring.specs.Wires.{no_wire}
use Rattle.output.proofs.records.put_wires.Given as goal

abbrev pub invariant-loop-k : goal.invariant-loop-k
invariant-loop-k g l = (j : ℕ) → j < l.k → get_or l.list j no_wire ≡ wire_of (g.N.Netlist.meaning l.net) j
