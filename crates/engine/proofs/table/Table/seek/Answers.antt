-- The rows belong to the table from first to last.
use Rattle.std.proofs.Common.{ℕ, sym, ◌∙◌, subst, subst₂}
use Rattle.retiming.specs.Nearest.{Nearest}
use Rattle.engine.specs.Round.{AllDone}
use Rattle.engine.specs.Rows.{Holding}
use Rattle.engine.specs.State.{State}
use Rattle.engine.specs.Table.{table, bundles, lags_of, fixed_of}
use Rattle.engine.proofs.Advancing.{state_first, state_last}
use Rattle.engine.proofs.Needed.{depth_le_needs}
use Rattle.engine.proofs.table.Table.seek.Goals as goal

pub settle-requires-clause-state : goal.settle-requires-clause-state
settle-requires-clause-state c =
    let way = c.args.way in
    let t = c.args.self.now in
    let first = c.args.lags.now in
    let rows = c.begin-rows.result in
    let same = c.begin-rows.ensures.table in
    subst (λ s. State way s.gates s.links.now s.fixed.now first first rows.depths rows.holders rows.flows) (sym same)
    (state_first way t.gates t.links.now t.fixed.now first rows.depths rows.holders rows.flows t.tabled c.requires.standing c.begin-rows.ensures.depths (subst (λ s. Holding s.links.now rows.depths rows.holders rows.flows) same rows.holding))

pub returns : goal.returns
returns c =
    let way = c.args.way in
    let t = c.args.self.now in
    let first = c.args.lags.now in
    let last = c.settle.new.lags in
    let start = c.begin-rows.result in
    let end = c.settle.new.self in
    let same = c.settle.ensures.table ∙ c.begin-rows.ensures.table in
    let held = subst (λ s. Holding s.links.now start.depths start.holders start.flows) c.begin-rows.ensures.table start.holding in
    let before = c.needed-before.ensures first start.flows c.begin-rows.ensures.depths held in
    let state = subst (λ s. State way s.gates s.links.now s.fixed.now first last end.depths end.holders end.flows) same c.settle.ensures.state in
    let done = subst (λ s. AllDone way s.gates s.links.now s.fixed.now end.holders end.flows) same c.settle.ensures.done in
    let after = c.needed.ensures last end.flows state.depths_are state.holding in
    record {
      nearest = subst₂ (λ (a b : ℕ). Nearest way (table t.gates t.links.now) (bundles t.links.now) (fixed_of t.fixed.now) (lags_of first) (lags_of last) a b) (sym before) (sym after)
          (state_last way t.gates t.links.now t.fixed.now first last end.depths end.holders end.flows t.tabled state done);
      counts = λ k h. rw after (depth_le_needs t.gates t.links.now last end.depths end.holders end.flows t.tabled state.depths_are state.holding k h);
      past = state.past;
      within = state.within;
    }
