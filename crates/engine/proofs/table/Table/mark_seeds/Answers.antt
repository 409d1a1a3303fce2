use Rattle.std.proofs.Common.{ℕ, ◌<◌, refl, subst, inl, inr, arith}
use Rattle.engine.proofs.Picking.{MarkedSoFar, SeenSoFar, marks_more, seen_none, seen_idle, picked}
use Rattle.engine.proofs.table.Table.mark_seeds.Goals as goal
use Rattle.engine.proofs.table.Table.mark_seeds.Goals.{then-is_seed, else-is_seed}

pub loop-gate-init : goal.loop-gate-init
loop-gate-init c = (record { long = omega arith; each = λ g h. absurd (omega arith) }, seen_none _ _ _ _)

pub loop-gate-preserved : goal.loop-gate-preserved
loop-gate-preserved c =
    let old = c.loop-gate.invariant in
    let room : c.loop-gate.gate < 1024 = omega (arith, c.args.self.now.tabled.few_gates) in
    elim c.if-is_seed.branch [
      | then-is_seed w ↦ rw (w.marks-is, w.some-is) (marks_more _ _ _ _ c.loop-gate.marks c.loop-gate.gate 1 room (inl (refl, w.if-is_seed.ensures)) old.0, (c.loop-gate.gate, omega arith, w.if-is_seed.ensures))
      | else-is_seed w ↦ rw (w.marks-is, w.some-is) (marks_more _ _ _ _ c.loop-gate.marks c.loop-gate.gate 0 room (inr (refl, w.if-is_seed.ensures)) old.0, seen_idle _ _ _ _ c.loop-gate.some c.loop-gate.gate old.1 w.if-is_seed.ensures)
    ]

pub returns : goal.returns
returns c =
    let end = subst (λ (n : ℕ). MarkedSoFar c.args.way c.args.self.now.fixed.now c.args.prices.now.gains c.args.prices.now.costs c.loop-gate.marks n) (omega arith) c.loop-gate.invariant.0 in
    let seen = subst (λ (n : ℕ). SeenSoFar c.args.way c.args.self.now.fixed.now c.args.prices.now.gains c.args.prices.now.costs c.loop-gate.some n) (omega arith) c.loop-gate.invariant.1 in
    picked _ _ _ _ c.loop-gate.marks c.args.self.now.gates c.loop-gate.some end seen
