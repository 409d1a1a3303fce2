use Rattle.std.proofs.Common.{◌≡◌}
use Rattle.retiming.specs.Tied.{opposite}
use Rattle.engine.specs.OfRows.{Balanced}
use Rattle.engine.specs.Round.{excess}
use Rattle.engine.proofs.rows.Rows.balance.Given as goal

abbrev pub invariant-rounds : goal.invariant-rounds
invariant-rounds l =
    (l.self.table ≡ l.initial.self.table)
    × (l.self.depths ≡ l.initial.self.depths)
    × (Balanced (opposite l.way) l.initial.self → Balanced (opposite l.way) l.self)

abbrev pub decreases-rounds : goal.decreases-rounds
decreases-rounds l = excess l.way l.self.table.gates l.self.table.links.now l.self.table.fixed.now l.self.holders l.self.flows
