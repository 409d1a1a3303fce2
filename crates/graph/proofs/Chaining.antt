-- The loop that chains the arcs: no arc is chained at first, and one more with each turn.
use Rattle.std.proofs.Common.{◌≡◌, ℕ, suc, ◌+◌, ◌<◌, List, Option, Some, None, length, get_or, set, replicate, sym, refl, ◌∙◌, subst, inl, inr, arith}
use Rattle.std.proofs.lemmas.List.{length-replicate, length-set, get_or-set_same, get_or-set_other}
use Rattle.std.proofs.lemmas.Bool.{cases_eq}
use Rattle.graph.specs.Digraph.{Digraph}
use Rattle.graph.specs.declared.chains.Chains.{Chains}
use Rattle.graph.specs.Chains.{link_of, Last, Linked}
use Rattle.graph.proofs.Zeros.{zeros}

link_next : (i : ℕ) → link_of (i + 1) ≡ Some i
link_next i = let e : i + 1 ≡ suc i = omega arith in rw e refl

-- the loop's invariant: the arcs below m are chained, in arrays that are as long as ever
pub record Chaining (g : Digraph) (m : ℕ) (chains : Chains) : Type 0 where
  pub linked : Linked g m chains
  pub first_long : length chains.first ≡ 8192
  pub next_long : length chains.next ≡ 32768

pub chaining_none : (g : Digraph) → Chaining g 0 (record { first = replicate 8192 0; next = replicate 32768 0 })
chaining_none g = record {
  linked = record {
    few = omega arith;
    begins = λ v. rw (zeros 8192 v) (λ a h e. omega arith);
    goes_on = λ i h. absurd (omega arith);
  };
  first_long = length-replicate {A = ℕ} 8192 0;
  next_long = length-replicate {A = ℕ} 32768 0;
}

module _ (g : Digraph) (i : ℕ) where
  -- an arc below i + 1 that leaves another node than arc i is below i
  below : (v : ℕ) → (v ≡ g.from i → ⊥) → (a : ℕ) → a < i + 1 → g.from a ≡ v → a < i
  below v other a h leaves = elim (cases_eq a i) [ inl e ↦ absurd (other (subst (λ (j : ℕ). v ≡ g.from j) e (sym leaves))) | inr ne ↦ omega arith ]

  last_elsewhere : (v : ℕ) (link : Option ℕ) → (v ≡ g.from i → ⊥) → Last g v i link → Last g v (i + 1) link
  last_elsewhere v None other last = λ a h leaves. last a (below v other a h leaves) leaves
  last_elsewhere v (Some k) other last = (omega (arith, last.0), last.1, λ a h leaves. last.2 a (below v other a h leaves) leaves)

  pub chaining_more : (u : ℕ) (first next : List ℕ) → u ≡ g.from i → u < 8192 → i < 32768 → Chaining g i (record { first = first; next = next }) → Chaining g (i + 1) (record { first = set first u (i + 1); next = set next i (get_or first u 0) })
  chaining_more u first next from_is node arc old = record {
    linked = record {
      few = omega arith;
      begins = λ v. elim (cases_eq v u) [ inl e ↦ begins_here v e | inr ne ↦ rw (get_or-set_other first u v (i + 1) 0 ne) (last_elsewhere v (link_of (get_or first v 0)) (λ e. ne (e ∙ sym from_is)) (old.linked.begins v)) ];
      goes_on = λ j h. elim (cases_eq j i) [ inl e ↦ goes_on_here j e | inr ne ↦ rw (get_or-set_other next i j (get_or first u 0) 0 ne) (old.linked.goes_on j (omega arith)) ];
    };
    first_long = length-set first u (i + 1) ∙ old.first_long;
    next_long = length-set next i (get_or first u 0) ∙ old.next_long;
  }
    where
      begins_here : (v : ℕ) → v ≡ u → Last g v (i + 1) (link_of (get_or (set first u (i + 1)) v 0))
      begins_here v e = rw (e, get_or-set_same first u (i + 1) 0 (omega (arith, old.first_long)), link_next i, from_is) (omega arith, refl, λ a h leaves. omega arith)

      goes_on_here : (j : ℕ) → j ≡ i → Last g (g.from j) j (link_of (get_or (set next i (get_or first u 0)) j 0))
      goes_on_here j e = rw (e, get_or-set_same next i (get_or first u 0) 0 (omega (arith, old.next_long)), from_is) (old.linked.begins (g.from i))
