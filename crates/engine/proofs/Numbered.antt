-- Moves and their numbers.
use Rattle.std.proofs.Common.{◌≡◌, ℕ, ◌+◌, ◌-◌, ◌*◌, ◌<◌, cond, ltb, ap, ◌∙◌, arith}
use Rattle.std.proofs.lemmas.Bool.{cond_both, cond-true, cond-false, ltb-true, ltb-false, lt-ltb, le-ltb}
use Rattle.engine.specs.declared.moves.Move.{Move}
use Rattle.engine.specs.declared.moves.Move.TheVariants.{More, Less, Hand}
use Rattle.engine.specs.Moves.{numbered, wire_of}

pub wire_within : (wires a : ℕ) → a < 3 * wires → wire_of (numbered wires a) < wires
wire_within wires a h =
    cond_both (ltb a wires) (More a) (cond (ltb a (2 * wires)) (Less (a - wires)) (Hand (a - 2 * wires))) (λ m. wire_of m < wires) (ltb-true a wires)
    (λ past. cond_both (ltb a (2 * wires)) (Less (a - wires)) (Hand (a - 2 * wires)) (λ m. wire_of m < wires) (λ e. omega (arith, ltb-false a wires past, ltb-true a (2 * wires) e)) (λ e. omega (arith, ltb-false a (2 * wires) e)))

abbrev pub number : ℕ → Move → ℕ
number wires (More k) = k
number wires (Less k) = wires + k
number wires (Hand k) = 2 * wires + k

pub number_within : (wires : ℕ) (m : Move) → wire_of m < wires → number wires m < 3 * wires
number_within wires (More k) h = omega arith
number_within wires (Less k) h = omega arith
number_within wires (Hand k) h = omega arith

pub numbered_number : (wires : ℕ) (m : Move) → wire_of m < wires → numbered wires (number wires m) ≡ m
numbered_number wires (More k) h = cond-true (ltb k wires) _ _ (lt-ltb k wires h)
numbered_number wires (Less k) h =
    let past = le-ltb (wires + k) wires (omega arith) in
    let before = lt-ltb (wires + k) (2 * wires) (omega arith) in
    let back : wires + k - wires ≡ k = omega arith in
    cond-false (ltb (wires + k) wires) _ _ past ∙ cond-true (ltb (wires + k) (2 * wires)) _ _ before ∙ ap Less back
numbered_number wires (Hand k) h =
    let past = le-ltb (2 * wires + k) wires (omega arith) in
    let after = le-ltb (2 * wires + k) (2 * wires) (omega arith) in
    let back : 2 * wires + k - 2 * wires ≡ k = omega arith in
    cond-false (ltb (2 * wires + k) wires) _ _ past ∙ cond-false (ltb (2 * wires + k) (2 * wires)) _ _ after ∙ ap Hand back
