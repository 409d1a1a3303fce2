use Rattle.std.proofs.Common.{ℕ, refl, arith}
use Rattle.std.proofs.lemmas.List.{get_or-replicate}
use Rattle.engine.proofs.Lessening.{carried_less}
use Rattle.engine.proofs.Sticking.{stuck_from, hops_from, start_from, sink_from, arc_within}
use Rattle.engine.proofs.rows.Rows.round.Goals as goal

pub price-requires-clause-gains : goal.price-requires-clause-gains
price-requires-clause-gains c g h = get_or-replicate {A = ℕ} 1024 g 0 0 (omega (arith, c.args.self.now.table.tabled.few_gates))

pub price-requires-clause-costs : goal.price-requires-clause-costs
price-requires-clause-costs c g h = get_or-replicate {A = ℕ} 1024 g 0 0 (omega (arith, c.args.self.now.table.tabled.few_gates))

pub carry-requires-clause-stands : goal.carry-requires-clause-stands
carry-requires-clause-stands c =
    let rows = c.args.self.now in
    let table = rows.table in
    let prices = c.price.new.prices in
    let trail = c.follow.new.trail in
    let found = c.follow.ensures in
    hops_from c.args.way table.gates table.links.now table.fixed.now rows.depths rows.holders rows.flows prices.gains prices.costs table.tabled rows.holding c.price.ensures c.mark_seeds.new.marks trail.marks _ trail.hops found.0 c.if-not-mark_seeds.ensures.0 found.1

pub returns-in-None-clause-came : goal.returns-in-None-clause-came
returns-in-None-clause-came c =
    let rows = c.args.self.now in
    let table = rows.table in
    let prices = c.price.new.prices in
    let found = c.follow.ensures in
    let seed = c.if-not-mark_seeds.ensures.1 in (
      refl,
      refl,
      stuck_from c.args.way table.gates table.links.now table.fixed.now rows.depths rows.holders rows.flows prices.gains prices.costs table.tabled rows.holding c.price.ensures c.mark_seeds.new.marks c.follow.new.trail.marks found.0 c.if-not-mark_seeds.ensures.0 found.1.searched
          (arc_within c.args.way table.gates table.links.now rows.depths rows.holders rows.flows table.tabled rows.holding) c.in-None.ensures seed.0 seed.1 seed.2,
    )

pub returns-in-Some-clause-came : goal.returns-in-Some-clause-came
returns-in-Some-clause-came c =
    let rows = c.args.self.now in
    let table = rows.table in
    let prices = c.price.new.prices in
    let trail = c.follow.new.trail in
    let found = c.follow.ensures in
    let sink = c.in-Some.ensures in
    let end = c.carry.ensures in
    let start = start_from c.args.way table.gates table.links.now table.fixed.now rows.depths rows.holders rows.flows prices.gains prices.costs table.tabled rows.holding c.price.ensures c.mark_seeds.new.marks trail.marks _ trail.hops found.0 c.if-not-mark_seeds.ensures.0 found.1 c.carry.result end.gate end.mark end.start in
    let takes = sink_from c.args.way table.gates table.links.now table.fixed.now rows.depths rows.holders rows.flows prices.gains prices.costs table.tabled rows.holding c.price.ensures c.in-Some.sink sink.0 sink.2 in
    carried_less c.args.way table.gates table.links.now table.fixed.now rows.holders rows.flows c.carry.new.self.holders c.carry.new.self.flows c.carry.result c.in-Some.sink end.gate end.carried start.0 start.1 takes
