use Rattle.std.proofs.Common.{◌≡◌, true, false, rules, tests}
use Rattle.std.proofs.lemmas.Iterator.{first_from_Range}
use Rattle.output.proofs.Pinning.{leading_from_first}
use Rattle.output.proofs.file.leading_pins.Goals as goal

pub returns : goal.returns
returns g c =
    let n = g.N.Netlist.meaning c.args.net.now in
    let first = first_from_Range _ _ _ c.find.result (λ k. n.pinned k ≡ false) (λ k. n.pinned k ≡ true) c.find.ensures.ran (λ k q called. search (rules, tests)) (λ k q called. search (rules, tests)) in
    leading_from_first n c.gate_count-gates.result c.unwrap_or.result c.gate_count-gates.ensures c.find.result c.unwrap_or.ensures first
