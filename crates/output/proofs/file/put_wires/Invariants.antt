use Rattle.output.specs.Numbers.{PutsWires}
use Rattle.output.proofs.file.put_wires.Given as goal

abbrev pub invariant-loop-k : goal.invariant-loop-k
invariant-loop-k g l = PutsWires (g.N.Netlist.meaning l.net) l.k l.initial.bytes l.bytes
