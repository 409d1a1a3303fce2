use Rattle.std.proofs.Common.{false}
use Rattle.wiring.specs.Wires.{wired}
use Rattle.wiring.proofs.Pinning.{repinned, lowest_same, ends_of}
use Rattle.wiring.proofs.check.check_wires.Goals as goal

pub invariant_of-wires : goal.invariant_of-wires
invariant_of-wires c = record {
  few = c.requires.few;
  short = c.requires.short;
  within = λ k within. ends_of (wired c.args.gates (λ _. false) c.args.wires.now) k (c.in_default.ensures (λ _. false) k within);
}

pub returns-in-Some-round_wire : goal.returns-in-Some-round_wire
returns-in-Some-round_wire c =
    let gates = c.args.gates in
    let wires = c.args.wires.now in
    λ pinned. (c.in_default.ensures pinned, c.in_default-deep_wire.ensures gates pinned, lowest_same (repinned gates (λ _. false) pinned wires) (repinned gates pinned (λ _. false) wires) c.in-Some-round_wire.ensures)

pub returns-in-None : goal.returns-in-None
returns-in-None c =
    let gates = c.args.gates in
    let wires = c.args.wires.now in
    λ pinned. record { ends = c.in_default.ensures pinned; counts = c.in_default-deep_wire.ensures gates pinned; rounds = λ k within r. c.in-None.ensures k within (repinned gates pinned (λ _. false) wires k r) }
