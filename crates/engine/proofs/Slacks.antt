-- Slack over the wires from the first on, and lags moved from the first gate on.
use Rattle.std.proofs.Common.{◌≡◌, ℕ, ◌+◌, ◌<◌, ◌≤◌, min, Bool, true, false, cond, ◌&&◌, eqb, List, length, get_or, set, ℤ, pos, sym, ap, ◌∙◌, inl, inr, arith, below_more}
use Rattle.std.proofs.lemmas.List.{get_or-set_same, get_or-set_other}
use Rattle.std.proofs.lemmas.Bool.{cases_eq, cases_lt, lt-ltb, le-ltb, ne_eqb, and_left, eq-eqb}
use Rattle.retiming.specs.declared.way.Way.{Way}
use Rattle.retiming.specs.Push.{push, pushed_by, only_on}
use Rattle.retiming.proofs.Push.{push_none}
use Rattle.engine.specs.declared.link.Link.{Link}
use Rattle.engine.specs.Step.{inside, SlackAt}
use Rattle.engine.specs.Table.{lags_of}

module _ (way : Way) (links : List Link) (depths holders marks : List ℕ) where
  slack_less : (s t k : ℕ) → t ≤ s → SlackAt way links depths holders marks s k → SlackAt way links depths holders marks t k
  slack_less s t k l h = record { counts = λ a b. omega (arith, h.counts a b); shares = λ a b. omega (arith, h.shares a b) }

  pub slack_more : (least here k : ℕ) → ((j : ℕ) → j < k → SlackAt way links depths holders marks least j) → SlackAt way links depths holders marks here k → (j : ℕ) → j < k + 1 → SlackAt way links depths holders marks (min least here) j
  slack_more least here k old new = below_more (SlackAt way links depths holders marks (min least here)) k (λ j l. slack_less least (min least here) j (omega arith) (old j l)) (slack_less here (min least here) k (omega arith) new)

-- one gate more is inside or not
inside_here : (n : ℕ) (marks : List ℕ) → inside n marks n ≡ false
inside_here n marks = and_left _ _ (le-ltb n n (omega arith))

inside_other : (n j : ℕ) (marks : List ℕ) → (j ≡ n → ⊥) → inside (n + 1) marks j ≡ inside n marks j
inside_other n j marks other = ap (λ b. b && eqb (get_or marks j 0) 1) (elim (cases_lt j n) [ inl l ↦ lt-ltb j (n + 1) (omega arith) ∙ sym (lt-ltb j n l) | inr l ↦ le-ltb j (n + 1) (omega arith) ∙ sym (le-ltb j n l) ])

inside_new : (n : ℕ) (marks : List ℕ) → inside (n + 1) marks n ≡ eqb (get_or marks n 0) 1
inside_new n marks = ap (λ b. b && eqb (get_or marks n 0) 1) (lt-ltb n (n + 1) (omega arith))

module _ (way : Way) (by : ℕ) (marks : List ℕ) (first lags : List ℤ) (n : ℕ) (old : (j : ℕ) → lags_of lags j ≡ pushed_by way (only_on (inside n marks) by) (lags_of first) j) where
  -- gate n has not moved yet
  pub unmoved : lags_of lags n ≡ lags_of first n
  unmoved = old n ∙ ap (λ b. push way (cond b by 0) (lags_of first n)) (inside_here n marks) ∙ push_none way (lags_of first n)

  elsewhere : (j : ℕ) → (j ≡ n → ⊥) → lags_of lags j ≡ pushed_by way (only_on (inside (n + 1) marks) by) (lags_of first) j
  elsewhere j other = old j ∙ ap (λ b. push way (cond b by 0) (lags_of first j)) (sym (inside_other n j marks other))

  at_new : (b : Bool) → eqb (get_or marks n 0) 1 ≡ b → pushed_by way (only_on (inside (n + 1) marks) by) (lags_of first) n ≡ push way (cond b by 0) (lags_of first n)
  at_new b e = ap (λ t. push way (cond t by 0) (lags_of first n)) (inside_new n marks ∙ e)

  pub moved_marked : (v : ℤ) → n < length lags → get_or marks n 0 ≡ 1 → v ≡ push way by (lags_of lags n) → (j : ℕ) → lags_of (set lags n v) j ≡ pushed_by way (only_on (inside (n + 1) marks) by) (lags_of first) j
  moved_marked v room mark is j = elim (cases_eq j n) [
    | inl here ↦ rw here (get_or-set_same lags n v (pos 0) room ∙ is ∙ ap (push way by) unmoved ∙ sym (at_new true (eq-eqb (get_or marks n 0) 1 mark)))
    | inr other ↦ get_or-set_other lags n j v (pos 0) other ∙ elsewhere j other
  ]

  pub moved_unmarked : (get_or marks n 0 ≡ 1 → ⊥) → (j : ℕ) → lags_of lags j ≡ pushed_by way (only_on (inside (n + 1) marks) by) (lags_of first) j
  moved_unmarked mark j = elim (cases_eq j n) [
    | inl here ↦ rw here (unmoved ∙ sym (push_none way (lags_of first n)) ∙ sym (at_new false (ne_eqb (get_or marks n 0) 1 mark)))
    | inr other ↦ elsewhere j other
  ]
