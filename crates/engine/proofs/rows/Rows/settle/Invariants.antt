use Rattle.std.proofs.Common.{◌≡◌, ◌+◌}
use Rattle.engine.specs.OfRows.{StateOf}
use Rattle.engine.specs.Round.{excess}
use Rattle.engine.specs.State.{needs_of}
use Rattle.engine.proofs.rows.Rows.settle.Given as goal

abbrev pub invariant-rounds : goal.invariant-rounds
invariant-rounds l = (l.self.table ≡ l.initial.self.table) × StateOf l.way l.initial.lags l.lags l.self

abbrev pub decreases-rounds : goal.decreases-rounds
decreases-rounds l =
    let table = l.self.table in
    needs_of table.gates table.links.now l.lags + excess l.way table.gates table.links.now table.fixed.now l.self.holders l.self.flows
