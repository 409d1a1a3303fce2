use Rattle.std.proofs.Common.{◌∙◌, sym, subst₂}
use Rattle.engine.proofs.Walking.{Walking, walked}
use Rattle.engine.proofs.rows.Rows.carry.Goals as goal

pub loop-v-preserved : goal.loop-v-preserved
loop-v-preserved c =
    let first = c.args.self.now in
    let rows = c.loop-v.self in
    let next = c.step_back-v.new.self in
    let trail = c.args.trail.now in
    let old = c.loop-v.invariant in
    let step = c.step_back-v.ensures in (
      step.table ∙ old.0,
      step.depths ∙ old.1,
      subst₂ (λ t d. Walking c.args.way t.gates t.links.now d trail.marks trail.hops c.args.target first.holders first.flows c.step_back-v.result next.holders next.flows) (sym step.table) (sym step.depths)
          (walked c.args.way rows.table.gates rows.table.links.now rows.depths trail.marks trail.hops c.args.target first.holders first.flows c.loop-v.v c.step_back-v.result rows.holders rows.flows next.holders next.flows old.2 step.stepped),
    )
