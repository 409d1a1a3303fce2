use Rattle.std.proofs.Common.{◌<◌, ◌^◌, get_or, ap, ◌∙◌, arith, rules}
use Rattle.std.specs.List.{range_with_len, sum_by}
use Rattle.std.proofs.lemmas.Iterator.{YieldsList-from_range, YieldsList-from_map}
use Rattle.std.proofs.lemmas.Iterator.Consumers.{sum_by_from_yields_List, fits_by_from_yields_list}
use Rattle.std.proofs.lemmas.List.Sums.{sum_by-le}
use Rattle.std.proofs.lemmas.List.FromFn.{length-range_with_len}
use Rattle.graph.specs.Sums.{total}
use Rattle.netlist.specs.Tally.{added}
use Rattle.netlist.proofs.Ranges.{total_range}
use Rattle.netlist.proofs.Tallies.{added_all}
use Rattle.netlist.proofs.registers.tally.Goals as goal

pub sum-requires-clause-fits : goal.sum-requires-clause-fits
sum-requires-clause-fits g c =
    let net = g.N.Netlist.meaning c.args.net.now in
    let laws = g.met.N.Netlist in
    let mark = g.S.Sharing.marking c.args.rule.now in
    let wires = c.wire_count.result in
    let range = YieldsList-from_range 0 wires wires c.map.ensures.source (omega arith) in
    let each = range_with_len 0 wires in
    let under = sum_by-le (added net mark) 1048575 each (λ k d h. omega (arith, laws.counts c.args.net.now (get_or each k d))) in
    let small : sum_by (added net mark) each < 2 ^ 64 = omega (arith, under, length-range_with_len 0 wires, c.wire_count.ensures, laws.few_wires c.args.net.now) in
    fits_by_from_yields_list (added net mark) each c.map.result (2 ^ 64) (YieldsList-from_map _ (added net mark) range c.map.ensures.closure (λ x r q k. search rules)) small

pub returns : goal.returns
returns g c =
    let net = g.N.Netlist.meaning c.args.net.now in
    let laws = g.met.N.Netlist in
    let mark = g.S.Sharing.marking c.args.rule.now in
    let wires = c.wire_count.result in
    let range = YieldsList-from_range 0 wires wires c.map.ensures.source (omega arith) in
    sum_by_from_yields_List (added net mark) (range_with_len 0 wires) c.map.result _ c.sum.ensures.ran (YieldsList-from_map _ (added net mark) range c.map.ensures.closure (λ x r q k. search rules))
    ∙ total_range (added net mark) wires
    ∙ ap (total (added net mark)) c.wire_count.ensures
    ∙ added_all net mark (laws.drivers c.args.net.now) (λ k l. g.met.S.Sharing.small c.args.rule.now _ _ k (omega (arith, laws.few_wires c.args.net.now)))
