use Rattle.std.proofs.Common.{ltb, arith}
use Rattle.wiring.proofs.Verdicts.{verdict_from_wires}
use Rattle.wiring.proofs.check.check_up_to.Goals as goal

pub returns : goal.returns
returns c =
    let pins = c.args.pins in
    verdict_from_wires c.args.limit c.args.gates pins c.args.wires.now c.check_wires.result (record { gates_fit = omega arith; wires_fit = omega arith; pins_fit = omega arith }) (c.check_wires.ensures (λ g. ltb g pins))
