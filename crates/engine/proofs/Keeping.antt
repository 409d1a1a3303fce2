-- A move that the rows leave keeps them in force.
use Rattle.std.proofs.Common.{◌≡◌, ℕ, ◌+◌, ◌-◌, ◌<◌, ◌≤◌, true, eqb, List, length, get_or, set, sym, ap, ◌∙◌, subst, inl, inr, arith}
use Rattle.std.proofs.lemmas.List.{length-set, get_or-set_same, get_or-set_other}
use Rattle.std.proofs.lemmas.Bool.{cases_eq, and_parts, eqb-true, ltb-true}
use Rattle.engine.specs.declared.link.Link.{Link}
use Rattle.engine.specs.declared.moves.Move.{Move}
use Rattle.engine.specs.declared.moves.Move.TheVariants.{More, Less, Hand}
use Rattle.engine.specs.Carried.{flows_after, holders_after}
use Rattle.engine.specs.Leftover.{possible}
use Rattle.engine.specs.Moves.{wire_of}
use Rattle.engine.specs.Rows.{holder, flows, Holding}
use Rattle.engine.specs.Table.{no_link, Tabled}
use Rattle.engine.proofs.Holders.{number_held, one_holder, holder_here, holder_else}

module _ (gates : ℕ) (links : List Link) (depths holders row : List ℕ) (tabled : Tabled gates links) (holding : Holding links depths holders row) where
  flow_set : (k v : ℕ) → k < length links → (0 < get_or depths k 0 → v ≡ 0) → v ≤ 4096 → Holding links depths holders (set row k v)
  flow_set k v h empty low = record {
    holders_long = holding.holders_long;
    flows_long = omega (arith, holding.flows_long, length-set row k v);
    is_wire = holding.is_wire;
    same_bundle = holding.same_bundle;
    deepest = holding.deepest;
    dry = λ i l full. elim (cases_eq i k) [ inl here ↦ here_is i here ∙ empty (subst (λ (j : ℕ). 0 < get_or depths j 0) here full) | inr other ↦ get_or-set_other row k i v 0 other ∙ holding.dry i l full ];
    small = λ i l. elim (cases_eq i k) [ inl here ↦ omega (arith, here_is i here) | inr other ↦ omega (arith, get_or-set_other row k i v 0 other, holding.small i l) ];
  }
    where
      here_is : (i : ℕ) → i ≡ k → get_or (set row k v) i 0 ≡ v
      here_is i here = ap (λ j. get_or (set row k v) j 0) here ∙ get_or-set_same row k v 0 (omega (arith, holding.flows_long))

  abbrev number_of : ℕ → ℕ
  number_of k = (get_or links k no_link).bundle

  abbrev depth_of : ℕ → ℕ
  depth_of k = get_or depths k 0

  share_set : (k : ℕ) → k < length links → get_or depths k 0 ≡ get_or depths (holder links holders k) 0 → Holding links depths (set holders (get_or links k no_link).bundle k) row
  share_set k h deep_enough = record {
    holders_long = omega (arith, holding.holders_long, length-set holders (get_or links k no_link).bundle k);
    flows_long = holding.flows_long;
    is_wire = λ i l. elim (cases_eq (number_of i) (number_of k)) [ inl same ↦ omega (arith, here i same) | inr other ↦ omega (arith, else i other, holding.is_wire i l) ];
    same_bundle = λ i l. elim (cases_eq (number_of i) (number_of k)) [ inl same ↦ ap number_of (here i same) ∙ sym same | inr other ↦ ap number_of (else i other) ∙ holding.same_bundle i l ];
    deepest = λ i l. elim (cases_eq (number_of i) (number_of k)) [
      | inl same ↦ omega (arith, holding.deepest i l, ap depth_of (here i same), ap depth_of (one_holder links holders i k same))
      | inr other ↦ omega (arith, holding.deepest i l, ap depth_of (else i other))
    ];
    dry = holding.dry;
    small = holding.small;
  }
    where
      here : (i : ℕ) → number_of i ≡ number_of k → holder links (set holders (number_of k) k) i ≡ k
      here i same = holder_here links holders k i (number_held gates links depths holders row tabled holding k h) same

      else : (i : ℕ) → (number_of i ≡ number_of k → ⊥) → holder links (set holders (number_of k) k) i ≡ holder links holders i
      else i other = holder_else links holders k i other

  pub holding_after : (m : Move) → wire_of m < length links → possible links depths holders row m ≡ true → Holding links depths (holders_after links m holders) (flows_after m row)
  holding_after (More k) h can = let parts = and_parts (eqb (get_or depths k 0) 0) _ can in flow_set k (get_or row k 0 + 1) h (λ full. absurd (omega (arith, eqb-true (get_or depths k 0) 0 parts.0))) (omega (arith, ltb-true (flows row k) 4096 parts.1))
  holding_after (Less k) h can = flow_set k (get_or row k 0 - 1) h (λ full. omega (arith, holding.dry k h full)) (omega (arith, holding.small k h))
  holding_after (Hand k) h can = share_set k h (eqb-true (get_or depths k 0) (get_or depths (holder links holders k) 0) can)
