use Rattle.std.proofs.Common.{ℕ, false, ltb, get_or, sym, refl, ◌∙◌, subst, arith}
use Rattle.std.proofs.lemmas.Result.{IfOk-weaker}
use Rattle.wiring.specs.Check.{WiresPass}
use Rattle.wiring.specs.Wires.{wired}
use Rattle.wiring.proofs.Keeping.{pass_repinned, wired_same, pins_at}
use Rattle.wiring.proofs.Verdicts.{not_both}
use Rattle.wiring.proofs.list.open.Goals as goal

pub new-requires : goal.new-requires
new-requires c =
    let pass = c.in-Ok.ensures in
    let long = c.in_ok-row-in-Ok.ensures.0 in
    let pins = c.in_ok-row-in-Ok.row.items in
    let wires = c.args.wires.now in
    record {
      gates = omega (arith, long, pass.sizes.gates_fit);
      few = pass.sizes.wires_fit;
      pass = subst (λ (n : ℕ). WiresPass 1048575 (wired n (λ g. get_or pins g false) wires)) (sym long) (pass_repinned 1048575 c.args.gates (λ g. ltb g c.args.pins) (λ g. get_or pins g false) wires pass.wires);
    }

pub returns-in_ok-row-in-Ok : goal.returns-in_ok-row-in-Ok
returns-in_ok-row-in-Ok c =
    let pass = c.in-Ok.ensures in
    let made = c.in_ok-row-in-Ok.ensures in
    let row = c.in_ok-row-in-Ok.row in
    let is = wired_same {ws = c.args.wires.now} made.0 (pins_at row.items c.args.gates c.args.pins (sym row.ok.0 ∙ made.0) pass.sizes.pins_fit made.1) refl in
    IfOk-weaker c.new.result _ _ (λ w shows. record { accepted = λ _. shows ∙ is; refused = λ f fail. absurd (not_both 1048575 c.args.gates c.args.pins c.args.wires.now f pass fail) }) c.new.ensures
