-- The open arcs of the leftover graph are the moves without slack, but for wires whose flow is at its limit.
use Rattle.std.proofs.Common.{◌≡◌, ℕ, ◌*◌, ◌<◌, ◌≤◌, true, ◌⊎◌, List, length, get_or, sym, refl, ap, ◌∙◌, inl, inr, arith}
use Rattle.std.proofs.lemmas.Bool.{cases_lt, and_parts, and_from, eqb-true, eq-eqb, ltb-true, lt-ltb}
use Rattle.graph.specs.Digraph.{Digraph}
use Rattle.retiming.specs.declared.way.Way.{Way}
use Rattle.retiming.specs.declared.way.Way.TheVariants.{Forward, Back}
use Rattle.retiming.specs.Tied.{Passes, more_flow, less_flow, other_share, Follows}
use Rattle.engine.specs.declared.link.Link.{Link}
use Rattle.engine.specs.declared.moves.Move.{Move}
use Rattle.engine.specs.declared.moves.Move.TheVariants.{More, Less, Hand}
use Rattle.engine.specs.Leftover.{leftover, source, sink, possible}
use Rattle.engine.specs.Moves.{numbered, wire_of}
use Rattle.engine.specs.Rows.{deep, holder, shares, flows, Holding}
use Rattle.engine.specs.Table.{no_link, bundles, Tabled}
use Rattle.engine.proofs.Holders.{shares_holder, one_holder, fellows, same_number, holder_shares}
use Rattle.engine.proofs.Numbered.{number, number_within, numbered_number, wire_within}

-- an open arc of g leads from x to y
abbrev pub OpenArc : Digraph → ℕ → ℕ → Type 0
OpenArc g x y = (a : ℕ) × (a < g.arcs) × (g.opens a ≡ true) × (g.from a ≡ x) × (g.to a ≡ y)

-- a unit goes from gate x to gate y by more flow on wire k
abbrev pub Over : Way → List Link → ℕ → ℕ → ℕ → Type 0
Over Forward links k x y = ((get_or links k no_link).driven ≡ x) × ((get_or links k no_link).driver ≡ y)
Over Back links k x y = ((get_or links k no_link).driven ≡ y) × ((get_or links k no_link).driver ≡ x)

-- it would, but the flow is at its limit
abbrev pub Capped : Way → List Link → List ℕ → ℕ → ℕ → Type 0
Capped way links row x y = (k : ℕ) × (k < length links) × (4096 ≤ flows row k) × Over way links k x y

module _ (gates : ℕ) (links : List Link) (depths holders row : List ℕ) (tabled : Tabled gates links) (holding : Holding links depths holders row) where
  pub possible_passes : (m : Move) → wire_of m < length links → possible links depths holders row m ≡ true → Passes (deep gates links depths) (bundles links) (shares links holders) (flows row) (source links holders m) (sink links m) 0
  possible_passes (More k) h opened = more_flow k h refl refl (eqb-true _ _ (and_parts _ _ opened).0)
  possible_passes (Less k) h opened = less_flow k h refl refl (ltb-true _ _ opened)
  possible_passes (Hand k) h opened =
      let from = holding.is_wire k h in
      other_share (holder links holders k) k from h refl refl (holder_shares links depths holders row holding k h) (fellows gates links depths tabled k (holder links holders k) h from (sym (holding.same_bundle k h))) (omega (arith, eqb-true _ _ opened))

  abbrev LeftMove : ℕ → ℕ → Type 0
  LeftMove x y = (m : Move) × (wire_of m < length links) × (possible links depths holders row m ≡ true) × (source links holders m ≡ x) × (sink links m ≡ y)

  passes_possible : {x y slack : ℕ} → slack ≡ 0 → Passes (deep gates links depths) (bundles links) (shares links holders) (flows row) x y slack → LeftMove x y ⊎ Capped Forward links row x y
  passes_possible none (more_flow k h driven driver used) = elim (cases_lt (flows row k) 4096) [
    | inl room ↦ inl (More k, h, and_from _ _ (eq-eqb (get_or depths k 0) 0 (used ∙ none)) (lt-ltb (flows row k) 4096 room), driven, driver)
    | inr full ↦ inr (k, h, full, (driven, driver))
  ]
  passes_possible none (less_flow k h driver driven some) = inl (Less k, h, lt-ltb 0 (flows row k) some, driver, driven)
  passes_possible none (other_share k j hk hj from to picked fellow used) =
      let is : holder links holders j ≡ k = one_holder links holders j k (same_number gates links depths j k fellow) ∙ shares_holder links holders k picked in
      inl (Hand j, hj, eq-eqb (get_or depths j 0) (get_or depths (holder links holders j) 0) (omega (arith, used, none, ap (λ i. get_or depths i 0) is)), ap (λ i. (get_or links i no_link).driven) is ∙ from, to)

  pub open_follows : (way : Way) (a : ℕ) → a < 3 * length links → (leftover way gates links depths holders row).opens a ≡ true →
      Follows way (deep gates links depths) (bundles links) (shares links holders) (flows row) ((leftover way gates links depths holders row).from a) ((leftover way gates links depths holders row).to a) 0
  open_follows Forward a h opened = possible_passes (numbered (length links) a) (wire_within (length links) a h) opened
  open_follows Back a h opened = possible_passes (numbered (length links) a) (wire_within (length links) a h) opened

  pub follows_open : (way : Way) (x y : ℕ) → Follows way (deep gates links depths) (bundles links) (shares links holders) (flows row) x y 0 → OpenArc (leftover way gates links depths holders row) x y ⊎ Capped way links row x y
  follows_open Forward x y moves = elim (passes_possible refl moves) [
    | inl (m, h, can, from, to) ↦ let is = numbered_number (length links) m h in
        inl (number (length links) m, number_within (length links) m h, ap (possible links depths holders row) is ∙ can, ap (source links holders) is ∙ from, ap (sink links) is ∙ to)
    | inr full ↦ inr full
  ]
  follows_open Back x y moves = elim (passes_possible refl moves) [
    | inl (m, h, can, from, to) ↦ let is = numbered_number (length links) m h in
        inl (number (length links) m, number_within (length links) m h, ap (possible links depths holders row) is ∙ can, ap (sink links) is ∙ to, ap (source links holders) is ∙ from)
    | inr full ↦ inr full
  ]
