-- The pass over the wires that gives each bundle's share to its first wire with the greatest count.
use Rattle.std.proofs.Common.{◌≡◌, ℕ, ◌+◌, ◌<◌, ◌≤◌, List, length, get_or, set, replicate, sym, refl, ap, ◌∙◌, subst, inl, inr, arith}
use Rattle.std.proofs.lemmas.List.{get_or-set_same, get_or-set_other, get_or-replicate, length-set, length-replicate}
use Rattle.std.proofs.lemmas.Bool.{cases_eq}
use Rattle.engine.specs.declared.link.Link.{Link}
use Rattle.engine.specs.Rows.{holder, Holding}
use Rattle.engine.specs.Table.{no_link, Tabled}

-- wire i is the holder of bundle b among the first k wires
pub record Holds (links : List Link) (depths : List ℕ) (k b i : ℕ) : Type 0 where
  pub earlier : i < k
  pub inside : (get_or links i no_link).bundle ≡ b
  pub deepest : (j : ℕ) → j < k → (get_or links j no_link).bundle ≡ b → get_or depths j 0 ≤ get_or depths i 0

-- among the first k wires each bundle with a wire has a holder; any other number in the row is low too
pub record Chosen (links : List Link) (depths holders : List ℕ) (k : ℕ) : Type 0 where
  pub long : 4096 ≤ length holders
  pub low : (b : ℕ) → b < 4096 → get_or holders b 0 ≤ k
  pub held : (b j : ℕ) → b < 4096 → j < k → (get_or links j no_link).bundle ≡ b → Holds links depths k b (get_or holders b 0)

pub chosen_none : (links : List Link) (depths : List ℕ) (n : ℕ) → n ≡ 4096 → Chosen links depths (replicate n 0) 0
chosen_none links depths n is = record {
  long = omega (arith, is, length-replicate {A = ℕ} n 0);
  low = λ b h. omega (arith, get_or-replicate {A = ℕ} n b 0 0 (omega (arith, is)));
  held = λ b j _ none _. absurd (omega arith);
}

module _ (links : List Link) (depths holders : List ℕ) (k : ℕ) (old : Chosen links depths holders k) where
  holds_elsewhere : (b j i : ℕ) → ((get_or links k no_link).bundle ≡ b → ⊥) → b < 4096 → j < k + 1 → (get_or links j no_link).bundle ≡ b → i ≡ get_or holders b 0 → Holds links depths (k + 1) b i
  holds_elsewhere b j i other small h e is = elim (cases_eq j k) [
    | inl here ↦ absurd (at_k j here e)
    | inr before ↦ let holds = old.held b j small (omega arith) e in subst (Holds links depths (k + 1) b) (sym is) (record {
      earlier = omega (arith, holds.earlier);
      inside = holds.inside;
      deepest = λ m hm em. elim (cases_eq m k) [ inl here ↦ absurd (at_k m here em) | inr low ↦ holds.deepest m (omega arith) em ];
    })
  ]
    where
      at_k : (m : ℕ) → m ≡ k → (get_or links m no_link).bundle ≡ b → ⊥
      at_k m here em = other (subst (λ (x : ℕ). (get_or links x no_link).bundle ≡ b) here em)

  module _ (b : ℕ) (b_is : b ≡ (get_or links k no_link).bundle) (small : b < 4096) where
    -- wire k takes the share
    pub chosen_take : ((get_or links (get_or holders b 0) no_link).bundle ≡ b → get_or depths (get_or holders b 0) 0 ≤ get_or depths k 0) → Chosen links depths (set holders b k) (k + 1)
    chosen_take deeper = record {
      long = rw length-set old.long;
      low = λ a h. elim (cases_eq a b) [
        | inl here ↦ omega (arith, ap (λ x. get_or (set holders b k) x 0) here, now)
        | inr other ↦ omega (arith, get_or-set_other holders b a k 0 other, old.low a h)
      ];
      held = λ a j h l e. elim (cases_eq a b) [
        | inl here ↦ rw (here, now) taken
        | inr other ↦ holds_elsewhere a j _ (λ at. other (sym at ∙ sym b_is)) h l e (get_or-set_other holders b a k 0 other)
      ];
    }
      where
        now : get_or (set holders b k) b 0 ≡ k
        now = get_or-set_same holders b k 0 (omega (arith, old.long))

        taken : Holds links depths (k + 1) b k
        taken = record {
          earlier = omega arith;
          inside = sym b_is;
          deepest = λ j h e. elim (cases_eq j k) [
            | inl here ↦ omega (arith, ap (λ x. get_or depths x 0) here)
            | inr before ↦ let holds = old.held b j small (omega arith) e in omega (arith, holds.deepest j (omega arith) e, deeper holds.inside)
          ];
        }

    -- the holder stays
    pub chosen_leave : (get_or links (get_or holders b 0) no_link).bundle ≡ b → get_or depths k 0 ≤ get_or depths (get_or holders b 0) 0 → Chosen links depths holders (k + 1)
    chosen_leave inside deep = record {
      long = old.long;
      low = λ a h. omega (arith, old.low a h);
      held = λ a j h l e. elim (cases_eq a b) [
        | inl here ↦ rw here kept
        | inr other ↦ holds_elsewhere a j _ (λ at. other (sym at ∙ sym b_is)) h l e refl
      ];
    }
      where
        kept : Holds links depths (k + 1) b (get_or holders b 0)
        kept = record {
          earlier = omega (arith, old.low b small);
          inside = inside;
          deepest = λ j h e. elim (cases_eq j k) [
            | inl here ↦ omega (arith, ap (λ x. get_or depths x 0) here)
            | inr before ↦ (old.held b j small (omega arith) e).deepest j (omega arith) e
          ];
        }

-- after the last wire, without a flow
pub chosen_all : (gates : ℕ) (links : List Link) (depths holders row : List ℕ) → Tabled gates links → Chosen links depths holders (length links) → length links ≤ length row → ((k : ℕ) → k < length links → get_or row k 0 ≡ 0) → Holding links depths holders row
chosen_all gates links depths holders row tabled chosen long still = record {
  holders_long = chosen.long;
  flows_long = long;
  is_wire = λ k h. (holds k h).earlier;
  same_bundle = λ k h. (holds k h).inside;
  deepest = λ k h. (holds k h).deepest k h refl;
  dry = λ k h _. still k h;
  small = λ k h. omega (arith, still k h);
}
  where
    holds : (k : ℕ) → k < length links → Holds links depths (length links) (get_or links k no_link).bundle (holder links holders k)
    holds k h = chosen.held _ k (tabled.numbers k h) h refl
