-- A round that was stuck left the rows as they were, and the set has been moved.
use Rattle.std.proofs.Common.{◌∙◌, sym, subst, subst₂}
use Rattle.engine.specs.State.{State, Within}
use Rattle.engine.proofs.Advancing.{state_now}
use Rattle.engine.proofs.rows.Rows.settle.Goals as goal

pub rounds-preserved : goal.rounds-preserved
rounds-preserved c =
    let way = c.args.way in
    let first = c.args.lags.now in
    let rows = c.rounds.self in
    let now = c.round.new.self in
    let stuck = c.in-Stuck.ensures in
    let same = stuck.table ∙ c.rounds.invariant.0 in
    let state = subst₂ (λ t d. State way t.gates t.links.now t.fixed.now first c.rounds.lags d now.holders now.flows) (sym stuck.table) (sym stuck.depths)
    (state_now way rows.table.gates rows.table.links.now rows.table.fixed.now first c.rounds.lags rows.depths rows.holders rows.flows now.holders now.flows c.in-Stuck.marks stuck.came c.rounds.invariant.1) in
    (c.advance.ensures.table ∙ same, c.advance.ensures.state first (subst (λ t. Within t.gates t.links.now 1048575 first) (sym same) c.requires.within) state)
