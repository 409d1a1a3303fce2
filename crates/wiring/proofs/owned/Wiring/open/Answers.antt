use Rattle.std.proofs.Common.{ℕ, false, ltb, get_or, subst}
use Rattle.wiring.specs.List.{Passes}
use Rattle.wiring.proofs.Keeping.{pass_repinned}
use Rattle.wiring.proofs.owned.Wiring.open.Goals as goal

pub new-requires : goal.new-requires
new-requires c =
    let wires = c.args.wires.now in
    let pins = c.args.pins in
    let pass = subst (λ (n : ℕ). Passes 1048575 n 0 wires) c.len.ensures c.in-Ok.ensures in
    record {
      gates = pass.sizes.gates_fit;
      few = pass.sizes.wires_fit;
      pass = pass_repinned 1048575 pins.len (λ g. ltb g 0) (λ g. get_or pins.items g false) wires pass.wires;
    }
