use Rattle.std.proofs.lemmas.Result.{IfOk-weaker}
use Rattle.std.proofs.Common.{◌∙◌}
use Rattle.drawing.proofs.Drawn.{seen_so, passes_as_list, not_both}
use Rattle.drawing.proofs.file.open.Goals as goal

pub returns-in-Ok : goal.returns-in-Ok
returns-in-Ok c =
    let b = c.args.bytes.now in
    let from = c.in-Ok.ensures in
    let kept = passes_as_list b _ _ _ from.accepted.sized from.pins_are from.netlist_is _ c.as_slice.ensures.value from.accepted in
    let is = seen_so b _ _ _ from.accepted.sized from.pins_are from.netlist_is _ c.as_slice.ensures.value in
    IfOk-weaker c.open.result _ _ (λ w shows. record { accepted = λ _. shows.accepted kept ∙ is; refused = λ f r. absurd (not_both b f from.accepted r) }) c.open.ensures
