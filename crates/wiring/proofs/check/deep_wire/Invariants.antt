use Rattle.std.proofs.Common.{false}
use Rattle.wiring.specs.Check.{NoneBelow, Deep}
use Rattle.wiring.specs.Wires.{wired}
use Rattle.wiring.proofs.check.deep_wire.Given as goal

abbrev pub invariant-loop-k : goal.invariant-loop-k
invariant-loop-k l = NoneBelow l.k (Deep l.limit (wired 0 (λ _. false) l.wires))
