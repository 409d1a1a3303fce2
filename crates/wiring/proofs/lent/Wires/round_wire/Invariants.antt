use Rattle.std.proofs.Common.{◌≡◌, false, None}
use Rattle.netlist.specs.Net.{OnFreeRound}
use Rattle.wiring.specs.Check.{NoneBelow}
use Rattle.wiring.specs.Wires.{wired}
use Rattle.wiring.proofs.lent.Wires.round_wire.Given as goal

abbrev pub invariant-wires : goal.invariant-wires
invariant-wires l = (l.found ≡ None) × NoneBelow l.k (OnFreeRound (wired l.self.gates (λ _. false) l.self.list.now))
