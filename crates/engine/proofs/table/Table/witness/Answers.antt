-- The rows belong to the table and to the lags from first to last.
use Rattle.std.proofs.Common.{sym, ◌∙◌, subst}
use Rattle.retiming.specs.declared.way.Way.TheVariants.{Forward, Back}
use Rattle.engine.specs.Rows.{Depths}
use Rattle.engine.proofs.Deciding.{rows_witness, rows_better}
use Rattle.engine.proofs.table.Table.witness.Goals as goal
use Rattle.engine.proofs.table.Table.witness.Goals.{else-balance-via-then-balance+else-balance-2, else-balance-via-else-balance}

pub returns-then-balance-2 : goal.returns-then-balance-2
returns-then-balance-2 c =
    let t = c.args.self.now in
    let lags = c.args.lags.now in
    let begun = c.begin-rows.ensures in
    let one = c.if-balance.ensures in
    let two = c.if-balance-2.ensures in
    let same = two.table ∙ one.table ∙ begun.table in
    let deeps = subst (Depths t.gates t.links.now lags) (sym (two.depths ∙ one.depths)) begun.depths in
    (same, rows_witness t lags c.balance-then-balance.new.self same c.requires deeps (two.against one.verdict) two.verdict)

pub returns-else-balance : goal.returns-else-balance
returns-else-balance c =
    let t = c.args.self.now in
    let lags = c.args.lags.now in
    let begun = c.begin-rows.ensures in
    elim c.else-balance.branch [
      | else-balance-via-then-balance+else-balance-2 w ↦
          let one = w.if-balance.ensures in
          let two = w.if-balance-2.ensures in
          rows_better t lags w.balance-then-balance.new.self (two.table ∙ one.table ∙ begun.table) c.requires (subst (Depths t.gates t.links.now lags) (sym (two.depths ∙ one.depths)) begun.depths) Back two.verdict
      | else-balance-via-else-balance w ↦
          let one = w.if-balance.ensures in
          rows_better t lags c.balance.new.self (one.table ∙ begun.table) c.requires (subst (Depths t.gates t.links.now lags) (sym one.depths) begun.depths) Forward one.verdict
    ]
