use Rattle.std.proofs.Common.{◌≡◌, cond, ◌∙◌, arith, rules}
use Rattle.std.proofs.lemmas.Iterator.{YieldsList-from_range}
use Rattle.std.proofs.lemmas.Iterator.Consumers.{YieldsList-from_filter, count_from_yields_List}
use Rattle.std.proofs.lemmas.List.Sums.{length-filter}
use Rattle.std.specs.Iterator.Adapters.{filter_source}
use Rattle.netlist.proofs.Ranges.{total_range}
use Rattle.netlist.proofs.pins.pin_count.Goals as goal

pub returns : goal.returns
returns g c =
    let net = g.N.Netlist.meaning c.args.net.now in
    let range : filter_source c.filter.result ≡ record { start = 0; end = net.gates } = search rules in
    count_from_yields_List c.filter.result _ c.count.ensures.ran (YieldsList-from_filter _ net.pinned (YieldsList-from_range 0 net.gates net.gates range (omega arith)) c.filter.ensures.closure (λ x b q k. search rules))
    ∙ length-filter net.pinned _
    ∙ total_range (λ k. cond (net.pinned k) 1 0) net.gates
