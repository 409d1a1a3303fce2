-- The driver of each bundle, by its first wire.
use Rattle.std.proofs.Common.{◌≡◌, ℕ, ◌+◌, ◌<◌, ◌⊎◌, List, Option, Some, None, length, get_or, set, replicate, sym, ap, ◌∙◌, inl, inr, arith, below_more}
use Rattle.std.proofs.lemmas.List.{get_or-set_same, get_or-set_other, get_or-replicate, length-set, length-replicate}
use Rattle.std.proofs.lemmas.Bool.{cases_eq}
use Rattle.std.proofs.lemmas.Option.{none-some, same_Some}
use Rattle.engine.specs.declared.link.Link.{Link}
use Rattle.engine.specs.Fit.{AllSized, OneDriver}
use Rattle.engine.specs.Table.{no_link}

-- the owner of the bundle of wire j
abbrev pub owner : List Link → List (Option ℕ) → ℕ → Option ℕ
owner links owners j = get_or owners (get_or links j no_link).bundle None

-- of the first k wires each bundle's owner is the driver, and an owner is the driver of such a wire
pub record Owned (links : List Link) (owners : List (Option ℕ)) (k : ℕ) : Type 0 where
  pub long : length owners ≡ 4096
  pub right : (j : ℕ) → j < k → owner links owners j ≡ Some (get_or links j no_link).driver
  pub first : (b : ℕ) → b < 4096 → (get_or owners b None ≡ None) ⊎ ((j : ℕ) × (j < k) × ((get_or links j no_link).bundle ≡ b))

pub owned_none : (links : List Link) (n : ℕ) → n ≡ 4096 → Owned links (replicate n None) 0
owned_none links n is = record {
  long = length-replicate n None ∙ is;
  right = λ j l. absurd (omega arith);
  first = λ b l. inl (get_or-replicate n b None None (omega arith));
}

module _ (links : List Link) (owners : List (Option ℕ)) (k : ℕ) (within : k < length links) (gates : ℕ) (sized : AllSized gates links) (old : Owned links owners k) where
  -- the bundle has no wire yet
  pub owned_new : owner links owners k ≡ None → Owned links (set owners (get_or links k no_link).bundle (Some (get_or links k no_link).driver)) (k + 1)
  owned_new free = record {
    long = length-set owners _ _ ∙ old.long;
    right = below_more (λ j. owner links (set owners (get_or links k no_link).bundle (Some (get_or links k no_link).driver)) j ≡ Some (get_or links j no_link).driver) k
        (λ j l. get_or-set_other owners _ _ _ None (λ same. taken j l same) ∙ old.right j l)
        (get_or-set_same owners _ _ None (omega (arith, old.long, (sized k within).bundle_fits)));
    first = λ b l. elim (cases_eq b (get_or links k no_link).bundle) [
      | inl here ↦ inr (k, omega arith, sym here)
      | inr other ↦ elim (old.first b l) [ inl none ↦ inl (get_or-set_other owners _ b _ None other ∙ none) | inr some ↦ inr (some.0, omega (arith, some.1), some.2) ]
    ];
  }
    where
      taken : (j : ℕ) → j < k → (get_or links j no_link).bundle ≡ (get_or links k no_link).bundle → ⊥
      taken j l same = none-some (get_or links j no_link).driver (sym free ∙ ap (λ b. get_or owners b None) (sym same) ∙ old.right j l)

  -- the wire's driver is the owner
  pub owned_same : owner links owners k ≡ Some (get_or links k no_link).driver → Owned links owners (k + 1)
  owned_same same = record {
    long = old.long;
    right = below_more (λ j. owner links owners j ≡ Some (get_or links j no_link).driver) k old.right same;
    first = λ b l. elim (old.first b l) [ inl none ↦ inl none | inr some ↦ inr (some.0, omega (arith, some.1), some.2) ];
  }

  -- another wire of the bundle has another driver
  pub owned_other : (driver : ℕ) → owner links owners k ≡ Some driver → (driver ≡ (get_or links k no_link).driver → ⊥) → OneDriver links → ⊥
  owned_other driver some other one = elim (old.first (get_or links k no_link).bundle (sized k within).bundle_fits) [
    | inl none ↦ none-some driver (sym none ∙ some)
    | inr j ↦ other (same_Some _ _ (sym some ∙ ap (λ b. get_or owners b None) (sym j.2) ∙ old.right j.0 j.1) ∙ one j.0 k (omega (arith, j.1)) within j.2)
  ]

pub owned_all : (links : List Link) (owners : List (Option ℕ)) → Owned links owners (length links) → OneDriver links
owned_all links owners old j k hj hk same = same_Some _ _ (sym (old.right j hj) ∙ ap (λ b. get_or owners b None) same ∙ old.right k hk)
