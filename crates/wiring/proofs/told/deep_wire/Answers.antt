use Rattle.std.proofs.Common.{ℕ, ◌<◌, ◌≤◌, Option, Some, None, MatchOption, arith, rules, tests}
use Rattle.std.proofs.lemmas.Iterator.{first_from_Range}
use Rattle.wiring.specs.Check.{Finds, Deep}
use Rattle.wiring.proofs.told.deep_wire.Goals as goal

-- the first number of a range from 0 on is the lowest
lowest_from_first : (bound : ℕ) (P : ℕ → Type 0) (r : Option ℕ) → MatchOption r ((k : ℕ) → 0 ≤ k → k < bound → P k → ⊥) (λ i. (0 ≤ i) × (i < bound) × P i × ((k : ℕ) → 0 ≤ k → k < i → P k → ⊥)) → Finds bound P r
lowest_from_first bound P None none = λ k l. none k (omega arith) l
lowest_from_first bound P (Some i) first = record { within = first.1; here = first.2; before = λ k l. first.3 k (omega arith) l }

pub returns : goal.returns
returns g c =
    let deep : ℕ → Type 0 = Deep c.args.limit (g.N.Netlist.meaning c.args.net.now) in
    let first = first_from_Range _ _ _ c.find.result deep (λ k. deep k → ⊥) c.find.ensures.ran (λ k q called. search (rules, tests)) (λ k q called. search (rules, tests)) in
    rw (← c.wire_count.ensures) (lowest_from_first _ deep c.find.result first)
