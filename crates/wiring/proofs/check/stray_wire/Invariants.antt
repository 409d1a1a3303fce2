use Rattle.std.proofs.Common.{false}
use Rattle.wiring.specs.Check.{NoneBelow, Stray}
use Rattle.wiring.specs.Wires.{wired}
use Rattle.wiring.proofs.check.stray_wire.Given as goal

abbrev pub invariant-loop-k : goal.invariant-loop-k
invariant-loop-k l = NoneBelow l.k (Stray (wired l.gates (λ _. false) l.wires))
