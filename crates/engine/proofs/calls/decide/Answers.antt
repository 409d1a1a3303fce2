-- The table that was found fit is the one that was given, and the rows are its witness.
use Rattle.std.proofs.Common.{◌≡◌, ℕ, ◌<◌, Bool, List, length, get_or, ap, ◌∙◌, subst, subst₂}
use Rattle.netlist.specs.Lags.{under}
use Rattle.retiming.specs.Witness.{Witness}
use Rattle.engine.specs.declared.link.Link.{Link}
use Rattle.engine.specs.Rows.{shares, flows}
use Rattle.engine.specs.Table.{table, bundles, lags_of, fixed_of}
use Rattle.engine.proofs.Agreeing.{witness_same}
use Rattle.engine.proofs.calls.decide.Goals as goal

pub returns : goal.returns
returns c =
    let gates = c.args.gates in
    let links = c.args.links.now in
    let fixed = c.args.fixed.now in
    let lags = c.args.lags.now in
    let rows = c.in-Some.witness in
    let fit = rw c.in_ok-table.ensures.ok_part at c.fit.ensures in
    let found = c.in-Some.ensures in
    let wires = ap (λ t. t.links.now) found.0 ∙ fit.1 in
    let proof = subst (λ (f : List Bool). Witness (under (table gates links) (lags_of lags)) (bundles links) (fixed_of f) (shares links rows.holders) (flows rows.flows)) fit.2
    (subst₂ (λ (g : ℕ) (l : List Link). Witness (under (table g l) (lags_of lags)) (bundles l) (fixed_of c.in_ok-table.table.fixed.now) (shares l rows.holders) (flows rows.flows)) fit.0 fit.1 found.1) in
    let shared = subst (λ (l : List Link). (k : ℕ) → k < length l → get_or c.write_shares.new.row k 0 ≡ shares l rows.holders k) wires c.write_shares.ensures.written in
    let flowing = subst (λ (l : List Link). (k : ℕ) → k < length l → get_or c.write_flows.new.row k 0 ≡ get_or rows.flows k 0) wires c.write_flows.ensures.written in
    record {
      fit = fit.3;
      shares_long = c.if-shares-links.false;
      flows_long = c.if-flows-links.false;
      verdict = record {
        witness = witness_same (under (table gates links) (lags_of lags)) (bundles links) (fixed_of fixed) (shares links rows.holders) (flows rows.flows) (flows c.write_shares.new.row) (flows c.write_flows.new.row) shared flowing proof;
        shares_past = λ k h. c.write_shares.ensures.past k (rw wires h);
        flows_past = λ k h. c.write_flows.ensures.past k (rw wires h);
      };
    }
