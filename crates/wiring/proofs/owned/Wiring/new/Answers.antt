use Rattle.std.proofs.Common.{false, get_or, arith}
use Rattle.wiring.proofs.Keeping.{kept_wires}
use Rattle.wiring.proofs.owned.Wiring.new.Goals as goal

pub invariant_of-result : goal.invariant_of-result
invariant_of-result c =
    let wires = c.in_ok-wires.ensures in
    let kept = kept_wires _ (λ g. get_or c.args.pins.items g false) c.args.wires.now _ c.requires.pass wires.items in
    record { gates = c.requires.gates; few = omega (arith, wires.len, c.requires.few); within = kept.0; small = kept.1.0; rounds = kept.1.1.0 }
