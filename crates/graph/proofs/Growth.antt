-- Marks and hops that spread along open arcs: not at all, to one node more, and one growth after another.
use Rattle.std.proofs.Common.{◌≡◌, ℕ, ◌+◌, ◌<◌, true, List, length, get_or, refl, ◌∙◌, inl, inr, arith}
use Rattle.std.proofs.lemmas.Bool.{cases_eq}
use Rattle.graph.specs.Digraph.{Digraph}
use Rattle.graph.specs.Reach.{Reached, begin, along}
use Rattle.graph.specs.declared.reach.Front.{Front}
use Rattle.graph.specs.Frontier.{Queued, Enqueued, Spread, Paced, Grown, Found}
use Rattle.graph.specs.Trace.{Entered}
use Rattle.graph.proofs.Queueing.{hop_lt, one_from_pos, mark_elsewhere, hop_here, hop_elsewhere, longer, place_before, queued_new}

-- a marked node is another than one without a mark
other : (marks : List ℕ) (u v : ℕ) → get_or marks u 0 ≡ 0 → 0 < get_or marks v 0 → v ≡ u → ⊥
other marks u v clear some e = omega (arith, clear, rw e at some)

-- what is reached from reached starts
pub reached_from : {g : Digraph} {P Q : ℕ → Type 0} → ((u : ℕ) → P u → Reached g Q u) → (v : ℕ) → Reached g P v → Reached g Q v
reached_from starts v (begin start) = starts v start
reached_from {g} starts v (along a arc opens enters back) = along a arc opens enters (reached_from starts (g.from a) back)

module _ {g : Digraph} {before after : List ℕ} (spread : Spread g before after) where
  pub found_stays : (v : ℕ) → Found g before v → Found g after v
  found_stays v found = (found.0, spread.stays v found.0 (omega (arith, found.1)))

  spread_trans : {last : List ℕ} → Spread g after last → Spread g before last
  spread_trans {last = last} more = record {
    stays = λ v node some. found_on v (node, spread.stays v node some);
    reached = λ v node some. reached_from (λ u m. spread.reached u m.0 m.1) v (more.reached v node some);
    kept = λ k past. more.kept k past ∙ spread.kept k past;
  }
    where
      found_on : (v : ℕ) → Found g after v → get_or last v 0 ≡ 1
      found_on v found = more.stays v found.0 (omega (arith, found.1))

  paced_trans : {hops hops₁ last hops₂ : List ℕ} → Paced g before hops after hops₁ → Spread g after last → Paced g after hops₁ last hops₂ → Paced g before hops last hops₂
  paced_trans {hops₁ = hops₁} {last = last} {hops₂ = hops₂} one wider two = record {
    same = λ v node some. two.same v node (omega (arith, spread.stays v node some)) ∙ one.same v node some;
    entered = λ v node none some. elim (cases_eq (get_or after v 0) 0) [ inl clear ↦ two.entered v node clear some | inr marked ↦ still v node (omega arith) (one.entered v node none (omega arith)) ];
    kept = λ k past. two.kept k past ∙ one.kept k past;
  }
    where
      still : (v : ℕ) → v < g.nodes → 0 < get_or after v 0 → Entered g after hops₁ v → Entered g last hops₂ v
      still v node some (a, arc, opens, enters, from_node, marked, hop) =
          (a, arc, opens, enters, from_node, wider.stays (g.from a) from_node (omega arith), omega (arith, hop, two.same v node some, two.same (g.from a) from_node (omega arith)))

pub grown_none : {g : Digraph} {front : Front} → Queued g.nodes front → Grown g front front
grown_none {front = front} queued = record {
  queued = queued;
  spread = record { stays = one_from_pos queued; reached = λ v node some. begin (node, some); kept = λ k past. refl };
  paced = record { same = λ v node some. refl; entered = λ v node none some. absurd (other front.marks.now v v none some refl); kept = λ k past. refl };
  longer = omega arith;
  kept = λ q h. refl;
}

-- node u without a mark, which the open arc a enters from a marked node, has one hop more than that
module _ {g : Digraph} {u d : ℕ} {front front' : Front} (done : Enqueued u d front front') (queued : Queued g.nodes front) (a : ℕ) (arc : a < g.arcs) (opens : g.opens a ≡ true) (origin : Found g front.marks.now (g.from a)) (enters : g.to a ≡ u) (node : u < g.nodes) (clear : get_or front.marks.now u 0 ≡ 0) (hop : d ≡ get_or front.hops.now (g.from a) 0 + 1) where
  spread_one : Spread g front.marks.now front'.marks.now
  spread_one = record {
    stays = λ v h some. mark_elsewhere done v (other front.marks.now u v clear some) ∙ one_from_pos queued v h some;
    reached = λ v h some. elim (cases_eq v u) [ inl e ↦ rw e (along a arc opens enters (begin (origin.0, omega (arith, origin.1)))) | inr ne ↦ begin (h, rw (mark_elsewhere done v ne) at some) ];
    kept = λ k past. mark_elsewhere done k (λ e. omega arith);
  }

  paced_one : u < length front.hops.now → Paced g front.marks.now front.hops.now front'.marks.now front'.hops.now
  paced_one long = record {
    same = λ v h some. hop_elsewhere done v (other front.marks.now u v clear some);
    entered = λ v h none some. elim (cases_eq v u) [ inl e ↦ rw e entered | inr ne ↦ absurd (other front.marks.now v v none (rw (mark_elsewhere done v ne) at some) refl) ];
    kept = λ k past. hop_elsewhere done k (λ e. omega arith);
  }
    where
      from_other : g.from a ≡ u → ⊥
      from_other = other front.marks.now u (g.from a) clear (omega (arith, origin.1))

      entered : Entered g front'.marks.now front'.hops.now u
      entered = (a, arc, opens, enters, origin.0, mark_elsewhere done (g.from a) from_other ∙ origin.1, omega (arith, hop, hop_here done long, hop_elsewhere done (g.from a) from_other))

  pub grown_one : u < length front.marks.now → u < length front.hops.now → Grown g front front'
  grown_one long hops_long = record {
    queued = queued_new done queued node clear (omega (arith, hop, hop_lt queued (g.from a) origin.0 origin.1)) long hops_long;
    spread = spread_one;
    paced = paced_one hops_long;
    longer = omega (arith, longer done);
    kept = place_before done;
  }

pub grown_trans : {g : Digraph} {a b c : Front} → Grown g a b → Grown g b c → Grown g a c
grown_trans one two = record {
  queued = two.queued;
  spread = spread_trans one.spread two.spread;
  paced = paced_trans one.spread one.paced two.spread two.paced;
  longer = omega (arith, one.longer, two.longer);
  kept = λ q h. two.kept q (omega (arith, one.longer)) ∙ one.kept q h;
}
