use Rattle.std.proofs.Common.{max, refl, ap, ◌∙◌, arith, rules}
use Rattle.std.proofs.lemmas.Iterator.{YieldsList-from_range}
use Rattle.std.proofs.lemmas.Iterator.Consumers.{fold_from_yields_List}
use Rattle.netlist.specs.Tally.{together}
use Rattle.netlist.proofs.Ranges.{taken, most_range}
use Rattle.netlist.proofs.registers.Ruled.deepest_before.Goals as goal

pub returns : goal.returns
returns g c =
    let net = g.N.Netlist.meaning c.args.self.now.net.now in
    let test = together net (g.S.Sharing.marking c.args.self.now.rule.now) c.args.driver c.args.mark in
    let range = YieldsList-from_range 0 c.args.wire c.args.wire refl (omega arith) in
    let both = fold_from_yields_List _ (taken test net.count) (0, 0) c.fold-one.result c.fold-one.ensures.ran range (λ a x b q k. search rules) in
    c.max.ensures ∙ ap (λ m. max m.0 m.1) both ∙ most_range test net.count c.args.wire
