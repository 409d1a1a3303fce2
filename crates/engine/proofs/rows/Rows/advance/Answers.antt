-- A stuck set moved as far as its slack.
use Rattle.std.proofs.Common.{arith}
use Rattle.engine.proofs.Advancing.{fewer, still_standing, state_on}
use Rattle.engine.proofs.Closing.{slack_one}
use Rattle.engine.proofs.rows.Rows.advance.Goals as goal

pub slack-by-requires : goal.slack-by-requires
slack-by-requires c =
    let rows = c.args.self.now in
    let t = rows.table in
    record { «open» = slack_one c.args.way t.gates t.links.now t.fixed.now rows.depths rows.holders rows.flows c.args.marks.now t.tabled rows.holding c.requires.stuck }

pub read_depths-requires : goal.read_depths-requires
read_depths-requires c =
    let rows = c.args.self.now in
    let t = rows.table in
    let given = c.requires.state in
    let by = c.slack-by.ensures in
    still_standing c.args.way t.gates t.links.now t.fixed.now given.0 c.args.lags.now rows.depths rows.holders rows.flows c.args.marks.now c.slack-by.result t.tabled given.1 c.requires.stuck by.some by.slack c.move_lags.new.lags c.move_lags.ensures (omega (arith, given.1.standing.long, c.move_lags.auto.lags)) given.2

pub returns-clause-state : goal.returns-clause-state
returns-clause-state c first within state =
    let rows = c.args.self.now in
    let t = rows.table in
    let by = c.slack-by.ensures in
    state_on c.args.way t.gates t.links.now t.fixed.now first c.args.lags.now rows.depths rows.holders rows.flows c.args.marks.now c.slack-by.result t.tabled state c.requires.stuck by.some by.slack c.move_lags.new.lags c.move_lags.ensures (omega (arith, state.standing.long, c.move_lags.auto.lags)) within c.read_depths.new.depths c.read_depths.ensures

pub invariant_of-self : goal.invariant_of-self
invariant_of-self c =
    let rows = c.args.self.now in
    let t = rows.table in
    let given = c.requires.state in
    let by = c.slack-by.ensures in
    let state = state_on c.args.way t.gates t.links.now t.fixed.now given.0 c.args.lags.now rows.depths rows.holders rows.flows c.args.marks.now c.slack-by.result t.tabled given.1 c.requires.stuck by.some by.slack c.move_lags.new.lags c.move_lags.ensures (omega (arith, given.1.standing.long, c.move_lags.auto.lags)) given.2 c.read_depths.new.depths c.read_depths.ensures in
    record { holding = state.holding }

pub returns-clause-fewer : goal.returns-clause-fewer
returns-clause-fewer c =
    let rows = c.args.self.now in
    let t = rows.table in
    let given = c.requires.state in
    let by = c.slack-by.ensures in
    omega (arith, by.some, fewer c.args.way t.gates t.links.now t.fixed.now given.0 c.args.lags.now rows.depths rows.holders rows.flows c.args.marks.now c.slack-by.result t.tabled given.1 c.requires.stuck by.some by.slack c.move_lags.new.lags c.move_lags.ensures)
