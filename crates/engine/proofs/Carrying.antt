-- A move that the rows leave carries one unit of surplus.
use Rattle.std.proofs.Common.{◌≡◌, ℕ, ◌+◌, ◌-◌, ◌*◌, ◌<◌, true, cond, eqb, List, length, get_or, set, sym, refl, ap, ◌∙◌, subst, inl, inr, arith}
use Rattle.std.proofs.lemmas.List.{get_or-set_same, get_or-set_other, set-get_or}
use Rattle.std.proofs.lemmas.Bool.{cases_eq, ltb-true}
use Rattle.retiming.specs.declared.way.Way.{Way}
use Rattle.retiming.specs.declared.way.Way.TheVariants.{Forward, Back}
use Rattle.retiming.specs.Witness.{gain, cost}
use Rattle.retiming.proofs.Units.{unit_at, gain_more, cost_more, gain_moved, cost_moved}
use Rattle.engine.specs.declared.link.Link.{Link}
use Rattle.engine.specs.declared.moves.Move.{Move}
use Rattle.engine.specs.declared.moves.Move.TheVariants.{More, Less, Hand}
use Rattle.engine.specs.Carried.{Carried, flows_after, holders_after}
use Rattle.engine.specs.Leftover.{source, sink, possible, arc_from, arc_to}
use Rattle.engine.specs.Moves.{numbered, wire_of}
use Rattle.engine.specs.Rows.{deep, holder, shares, flows, Holding}
use Rattle.engine.specs.Table.{no_link, bundles, Tabled}
use Rattle.engine.proofs.Certified.{holding_deep}
use Rattle.engine.proofs.Holders.{number_held, share_one, share_none, one_holder, holder_here, holder_else, fellows, holder_shares}
use Rattle.engine.proofs.Numbered.{wire_within}

module _ (gates : ℕ) (links : List Link) (depths holders row : List ℕ) (tabled : Tabled gates links) (holding : Holding links depths holders row) where
  -- what each gate gains and costs after a move
  abbrev Shifted : Move → ℕ → Type 0
  Shifted m g =
      gain (deep gates links depths) (shares links (holders_after links m holders)) (flows (flows_after m row)) g + cost (deep gates links depths) (shares links holders) (flows row) g + unit_at (source links holders m) g ≡
      gain (deep gates links depths) (shares links holders) (flows row) g + cost (deep gates links depths) (shares links (holders_after links m holders)) (flows (flows_after m row)) g + unit_at (sink links m) g

  module _ (k : ℕ) (h : k < length links) (apart : holder links holders k ≡ k → ⊥) where
    abbrev at : ℕ
    at = holder links holders k

    abbrev holders' : List ℕ
    holders' = holders_after links (Hand k) holders

    held : (get_or links k no_link).bundle < length holders
    held = number_held gates links depths holders row tabled holding k h

    gave : shares links holders' at ≡ 0
    gave = share_none links holders' at (λ is. apart (sym is ∙ holder_here links holders k at held (holding.same_bundle k h)))

    has : shares links holders' k ≡ 1
    has = share_one links holders' k (holder_here links holders k k held refl)

    same : (i : ℕ) → i < length links → (i ≡ at → ⊥) → (i ≡ k → ⊥) → shares links holders' i ≡ shares links holders i
    same i _ off_at off_k = elim (cases_eq (get_or links i no_link).bundle (get_or links k no_link).bundle) [
      | inl beside ↦ share_none links holders' i (λ is. off_k (sym is ∙ holder_here links holders k i held beside)) ∙ sym (share_none links holders i (λ is. off_at (sym is ∙ one_holder links holders i k beside)))
      | inr other ↦ ap (λ j. cond (eqb j i) 1 0) (holder_else links holders k i other)
    ]

    share_shifted : (g : ℕ) → Shifted (Hand k) g
    share_shifted g =
        let cert = holding_deep {gates = gates} tabled holding in
        let from = holding.is_wire k h in
        let fellow = fellows gates links depths tabled k at h from (sym (holding.same_bundle k h)) in
        let had = holder_shares links depths holders row holding k h in
        omega (
          arith,
          gain_moved (deep gates links depths) (bundles links) (shares links holders) (shares links holders') (flows row) cert at k from h apart fellow had gave has same g,
          cost_moved (deep gates links depths) (bundles links) (shares links holders) (shares links holders') (flows row) cert at k from h apart fellow had gave has same g,
        )

  share_stays : (k : ℕ) → holder links holders k ≡ k → (g : ℕ) → Shifted (Hand k) g
  share_stays k is g =
      let rows : holders_after links (Hand k) holders ≡ holders = ap (λ v. set holders (get_or links k no_link).bundle v) (sym is) ∙ set-get_or holders (get_or links k no_link).bundle 0 in
      omega (
        arith,
        ap (λ hs. gain (deep gates links depths) (shares links hs) (flows row) g) rows,
        ap (λ hs. cost (deep gates links depths) (shares links hs) (flows row) g) rows,
        ap (λ i. unit_at (get_or links i no_link).driven g) is,
      )

  shifted : (m : Move) → wire_of m < length links → possible links depths holders row m ≡ true → (g : ℕ) → Shifted m g
  shifted (More k) h can g =
      let more = get_or-set_same row k (get_or row k 0 + 1) 0 (omega (arith, holding.flows_long)) in
      let same = λ (i : ℕ) (_ : i < length links) (other : i ≡ k → ⊥). get_or-set_other row k i (get_or row k 0 + 1) 0 other in
      omega (
        arith,
        gain_more (deep gates links depths) (bundles links) (shares links holders) (flows row) (flows (flows_after (More k) row)) k h more same g,
        cost_more (deep gates links depths) (bundles links) (shares links holders) (flows row) (flows (flows_after (More k) row)) k h more same g,
      )
  shifted (Less k) h can g =
      let less = get_or-set_same row k (get_or row k 0 - 1) 0 (omega (arith, holding.flows_long)) in
      let more : flows row k ≡ flows (flows_after (Less k) row) k + 1 = omega (arith, less, ltb-true 0 (flows row k) can) in
      let same = λ (i : ℕ) (_ : i < length links) (other : i ≡ k → ⊥). sym (get_or-set_other row k i (get_or row k 0 - 1) 0 other) in
      omega (
        arith,
        gain_more (deep gates links depths) (bundles links) (shares links holders) (flows (flows_after (Less k) row)) (flows row) k h more same g,
        cost_more (deep gates links depths) (bundles links) (shares links holders) (flows (flows_after (Less k) row)) (flows row) k h more same g,
      )
  shifted (Hand k) h can g = elim (cases_eq (holder links holders k) k) [ inl is ↦ share_stays k is g | inr apart ↦ share_shifted k h apart g ]

  pub carried_by : (way : Way) (m : Move) → wire_of m < length links → possible links depths holders row m ≡ true → Carried way gates links holders row (holders_after links m holders) (flows_after m row) (arc_from way links holders m) (arc_to way links holders m)
  carried_by Forward m h can = record { moved = λ g _. shifted m h can g }
  carried_by Back m h can = record { moved = λ g _. omega (arith, shifted m h can g) }

  -- an open arc is carried over
  pub arc_carried : (way : Way) (a : ℕ) → a < 3 * length links → possible links depths holders row (numbered (length links) a) ≡ true →
      (new_holders new_row : List ℕ) → new_holders ≡ holders_after links (numbered (length links) a) holders → new_row ≡ flows_after (numbered (length links) a) row →
      Carried way gates links holders row new_holders new_row (arc_from way links holders (numbered (length links) a)) (arc_to way links holders (numbered (length links) a))
  arc_carried way a h can new_holders new_row shares_are flows_are =
      let move = numbered (length links) a in
      subst (λ (hs : List ℕ). Carried way gates links holders row hs new_row (arc_from way links holders move) (arc_to way links holders move)) (sym shares_are)
      (subst (λ (fs : List ℕ). Carried way gates links holders row (holders_after links move holders) fs (arc_from way links holders move) (arc_to way links holders move)) (sym flows_are) (carried_by way move (wire_within (length links) a h) can))
