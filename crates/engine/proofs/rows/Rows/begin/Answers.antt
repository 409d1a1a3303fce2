use Rattle.std.proofs.Common.{ℕ, replicate, arith}
use Rattle.std.proofs.lemmas.List.{get_or-replicate, length-replicate}
use Rattle.engine.proofs.rows.Rows.begin.Goals as goal

pub invariant_of-result : goal.invariant_of-result
invariant_of-result c =
    let few = c.args.table.now.tabled.few_links in
    record { holding = c.holders-holders.ensures (replicate 4096 0) (omega (arith, few, length-replicate {A = ℕ} 4096 0)) (λ k h. get_or-replicate {A = ℕ} 4096 k 0 0 (omega (arith, few))) }
