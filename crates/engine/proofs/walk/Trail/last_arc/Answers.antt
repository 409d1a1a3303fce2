-- A range is searched that holds such an arc.
use Rattle.std.proofs.Common.{ℕ, ◌<◌, ◌≤◌, Option, Some, None, MatchOption, refl, arith, rules, tests}
use Rattle.std.proofs.lemmas.Iterator.{first_from_Range}
use Rattle.std.specs.Option.{IsSome}
use Rattle.engine.specs.Hops.{LastArc}
use Rattle.engine.specs.OfRows.{leftover_of}
use Rattle.engine.proofs.walk.Trail.last_arc.Goals as goal

-- one is found
found : (n : ℕ) (P : ℕ → Type 0) (r : Option ℕ) → (a : ℕ) × (a < n) × P a → MatchOption r ((k : ℕ) → 0 ≤ k → k < n → P k → ⊥) (λ i. (0 ≤ i) × (i < n) × P i × ((k : ℕ) → 0 ≤ k → k < i → P k → ⊥)) → IsSome r
found n P None some none = absurd (none some.0 (omega arith) some.1 some.2)
found n P (Some a) some first = refl

pub unwrap-requires : goal.unwrap-requires
unwrap-requires c =
    let last : ℕ → Type 0 = LastArc (leftover_of c.args.graph.now) c.args.self.now.marks c.args.self.now.hops c.args.v in
    let first = first_from_Range _ _ _ c.find.result last (λ a. last a → ⊥) c.find.ensures.ran (λ k q called. search (rules, tests)) (λ k q called. search (rules, tests)) in
    let some = c.requires.some in
    found c.arc_count.result last c.find.result (some.0, omega (arith, some.1.is_arc, c.arc_count.ensures.value), some.1) first

pub returns : goal.returns
returns c =
    let last : ℕ → Type 0 = LastArc (leftover_of c.args.graph.now) c.args.self.now.marks c.args.self.now.hops c.args.v in
    let first = first_from_Range _ _ _ c.find.result last (λ a. last a → ⊥) c.find.ensures.ran (λ k q called. search (rules, tests)) (λ k q called. search (rules, tests)) in
    (rw c.unwrap.ensures at first).2
