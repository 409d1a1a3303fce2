-- The unit came over the last arc into the gate.
use Rattle.std.proofs.Common.{ap, ◌∙◌}
use Rattle.engine.specs.Carried.{flows_after, holders_after}
use Rattle.engine.proofs.Carrying.{arc_carried}
use Rattle.engine.proofs.Walking.{step_made}
use Rattle.engine.proofs.rows.Rows.step_back.Goals as goal

pub returns-clause-stepped : goal.returns-clause-stepped
returns-clause-stepped c =
    let way = c.args.way in
    let rows = c.args.self.now in
    let gates = rows.table.gates in
    let links = rows.table.links.now in
    let a = c.last_arc-a.result in
    let last = c.last_arc-a.ensures in
    let made = c.make.new.self in
    let shares_are = c.make.ensures.holders ∙ ap (λ m. holders_after links m rows.holders) c.move_at.ensures in
    let flows_are = c.make.ensures.flows ∙ ap (λ m. flows_after m rows.flows) c.move_at.ensures in
    step_made way gates links rows.depths c.args.trail.now.marks c.args.trail.now.hops c.args.v a c.arc-from.result.0 rows.holders rows.flows made.holders made.flows
    last (c.arc-from.ensures.within last.is_arc).leaves c.requires.stands shares_are flows_are
    (arc_carried gates links rows.depths rows.holders rows.flows rows.table.tabled rows.holding way a last.is_arc last.opened made.holders made.flows shares_are flows_are)
