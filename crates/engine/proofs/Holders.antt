-- Wires that hold the share of their bundle.
use Rattle.std.proofs.Common.{◌≡◌, ℕ, ◌<◌, true, eqb, List, length, get_or, set, ap, ◌∙◌, inl, inr, arith}
use Rattle.std.proofs.lemmas.List.{get_or-set_same, get_or-set_other}
use Rattle.std.proofs.lemmas.Bool.{cases_eq, and_parts, and_from, eqb-true, eq-eqb, ne_eqb, cond-true, cond-false}
use Rattle.retiming.specs.Witness.{bundled}
use Rattle.engine.specs.declared.link.Link.{Link}
use Rattle.engine.specs.Rows.{deep, holder, shares, Holding}
use Rattle.engine.specs.Table.{no_link, bundles, Tabled}

pub share_one : (links : List Link) (holders : List ℕ) (k : ℕ) → holder links holders k ≡ k → shares links holders k ≡ 1
share_one links holders k is = cond-true (eqb (holder links holders k) k) 1 0 (eq-eqb (holder links holders k) k is)

pub share_none : (links : List Link) (holders : List ℕ) (k : ℕ) → (holder links holders k ≡ k → ⊥) → shares links holders k ≡ 0
share_none links holders k other = cond-false (eqb (holder links holders k) k) 1 0 (ne_eqb (holder links holders k) k other)

pub shares_holder : (links : List Link) (holders : List ℕ) (k : ℕ) → shares links holders k ≡ 1 → holder links holders k ≡ k
shares_holder links holders k picked = elim (cases_eq (holder links holders k) k) [ inl is ↦ is | inr other ↦ absurd (omega (arith, picked, share_none links holders k other)) ]

-- wires of one number have one holder
pub one_holder : (links : List Link) (holders : List ℕ) (j k : ℕ) → (get_or links j no_link).bundle ≡ (get_or links k no_link).bundle → holder links holders j ≡ holder links holders k
one_holder links holders j k same = ap (λ b. get_or holders b 0) same

-- the holder after wire k got the share
pub holder_here : (links : List Link) (holders : List ℕ) (k i : ℕ) → (get_or links k no_link).bundle < length holders → (get_or links i no_link).bundle ≡ (get_or links k no_link).bundle → holder links (set holders (get_or links k no_link).bundle k) i ≡ k
holder_here links holders k i h same = one_holder links (set holders (get_or links k no_link).bundle k) i k same ∙ get_or-set_same holders (get_or links k no_link).bundle k 0 h

pub holder_else : (links : List Link) (holders : List ℕ) (k i : ℕ) → ((get_or links i no_link).bundle ≡ (get_or links k no_link).bundle → ⊥) → holder links (set holders (get_or links k no_link).bundle k) i ≡ holder links holders i
holder_else links holders k i other = get_or-set_other holders (get_or links k no_link).bundle (get_or links i no_link).bundle k 0 other

-- wires of one number are a bundle
pub fellows : (gates : ℕ) (links : List Link) (depths : List ℕ) → Tabled gates links → (j k : ℕ) → j < length links → k < length links → (get_or links j no_link).bundle ≡ (get_or links k no_link).bundle → bundled (deep gates links depths) (bundles links) k j ≡ true
fellows gates links depths tabled j k hj hk same = and_from _ _ (eq-eqb _ _ (tabled.one_driver j k hj hk same)) (eq-eqb _ _ same)

pub same_number : (gates : ℕ) (links : List Link) (depths : List ℕ) (j k : ℕ) → bundled (deep gates links depths) (bundles links) k j ≡ true → (get_or links j no_link).bundle ≡ (get_or links k no_link).bundle
same_number gates links depths j k fellow = eqb-true (get_or links j no_link).bundle (get_or links k no_link).bundle (and_parts (eqb (get_or links j no_link).driver (get_or links k no_link).driver) _ fellow).1

pub holder_shares : (links : List Link) (depths holders row : List ℕ) → Holding links depths holders row → (k : ℕ) → k < length links → shares links holders (holder links holders k) ≡ 1
holder_shares links depths holders row holding k h = share_one links holders (holder links holders k) (one_holder links holders (holder links holders k) k (holding.same_bundle k h))

pub number_held : (gates : ℕ) (links : List Link) (depths holders row : List ℕ) → Tabled gates links → Holding links depths holders row → (k : ℕ) → k < length links → (get_or links k no_link).bundle < length holders
number_held gates links depths holders row tabled holding k h = omega (arith, tabled.numbers k h, holding.holders_long)
