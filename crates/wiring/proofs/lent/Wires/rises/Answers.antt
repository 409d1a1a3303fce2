use Rattle.wiring.proofs.Rising.{no_round}
use Rattle.wiring.proofs.lent.Wires.rises.Goals as goal

pub returns-then-not-lift : goal.returns-then-not-lift
returns-then-not-lift c =
    let wires = c.args.self.now in
    λ _. no_round wires.gates wires.list.now c.lift.new.levels (c.lift.ensures c.if-not-lift.true)
