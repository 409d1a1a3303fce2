-- Balanced both ways, the rows are a witness; stuck one way, some permitted lags need fewer registers.
use Rattle.std.proofs.Common.{◌≡◌, ℕ, Bool, List, ℤ, subst, arith}
use Rattle.netlist.specs.Lags.{under}
use Rattle.retiming.specs.declared.way.Way.{Way}
use Rattle.retiming.specs.declared.way.Way.TheVariants.{Forward, Back}
use Rattle.retiming.specs.Witness.{Witness}
use Rattle.engine.specs.declared.link.Link.{Link}
use Rattle.engine.specs.declared.rows.Rows.{Rows}
use Rattle.engine.specs.declared.table.Table.{Table}
use Rattle.engine.specs.OfRows.{Balanced, HasStuck}
use Rattle.engine.specs.Round.{AllDone, Improves}
use Rattle.engine.specs.Rows.{shares, flows, Depths, Holding}
use Rattle.engine.specs.State.{Better}
use Rattle.engine.specs.Table.{Tabled, Standing, table, bundles, lags_of, fixed_of}
use Rattle.engine.proofs.Advancing.{state_first, better}
use Rattle.engine.proofs.Certified.{holding_certificate}
use Rattle.engine.proofs.Closing.{slack_one}

module _ (gates : ℕ) (links : List Link) (fixed : List Bool) (lags : List ℤ) (depths holders row : List ℕ) (tabled : Tabled gates links) (standing : Standing gates links lags) (deeps : Depths gates links lags depths) (holding : Holding links depths holders row) where
  pub witness_from : AllDone Forward gates links fixed holders row → AllDone Back gates links fixed holders row → Witness (under (table gates links) (lags_of lags)) (bundles links) (fixed_of fixed) (shares links holders) (flows row)
  witness_from one two = record {
    certificate = holding_certificate gates links lags depths holders row tabled deeps holding;
    small = holding.small;
    balanced = λ g h free. omega (arith, one g h free, two g h free);
  }

  pub better_from : (way : Way) → Improves way gates links fixed depths holders row → Better gates links fixed lags lags
  better_from way found =
      better way gates links fixed lags lags depths holders row found.0 1 tabled (state_first way gates links fixed lags depths holders row tabled standing deeps holding) found.1 (omega arith)
      (slack_one way gates links fixed depths holders row found.0 tabled holding found.1)

-- the same of rows that belong to a table
module _ (t : Table) (lags : List ℤ) (rows : Rows) (same : rows.table ≡ t) (standing : Standing t.gates t.links.now lags) (deeps : Depths t.gates t.links.now lags rows.depths) where
  held : Holding t.links.now rows.depths rows.holders rows.flows
  held = subst (λ (s : Table). Holding s.links.now rows.depths rows.holders rows.flows) same rows.holding

  pub rows_witness : Balanced Forward rows → Balanced Back rows → Witness (under (table t.gates t.links.now) (lags_of lags)) (bundles t.links.now) (fixed_of t.fixed.now) (shares t.links.now rows.holders) (flows rows.flows)
  rows_witness one two =
      witness_from t.gates t.links.now t.fixed.now lags rows.depths rows.holders rows.flows t.tabled standing deeps held
      (subst (λ (s : Table). AllDone Forward s.gates s.links.now s.fixed.now rows.holders rows.flows) same one) (subst (λ (s : Table). AllDone Back s.gates s.links.now s.fixed.now rows.holders rows.flows) same two)

  pub rows_better : (way : Way) → HasStuck way rows → Better t.gates t.links.now t.fixed.now lags lags
  rows_better way found =
      better_from t.gates t.links.now t.fixed.now lags rows.depths rows.holders rows.flows t.tabled standing deeps held way
      (subst (λ (s : Table). Improves way s.gates s.links.now s.fixed.now rows.depths rows.holders rows.flows) same found)
