-- The end of the search: marks that hold the starts, spread along open arcs and are closed under them are right, and so are their hops.
use Rattle.std.proofs.Common.{◌≡◌, ℕ, ◌<◌, ◌≤◌, List, length, get_or, refl, ◌∙◌, subst, inl, inr, arith}
use Rattle.std.proofs.lemmas.Bool.{cases_eq}
use Rattle.graph.specs.Digraph.{Digraph}
use Rattle.graph.specs.declared.reach.Front.{Front}
use Rattle.graph.specs.Reach.{Reached, begin, along, Marked, Searched}
use Rattle.graph.specs.Frontier.{Started, Grown, Found, Closed}
use Rattle.graph.specs.Trace.{Traced}
use Rattle.graph.proofs.Growth.{reached_from}

found_from_reached : {g : Digraph} {P : ℕ → Type 0} (marks : List ℕ) → Closed g marks → ((u : ℕ) → P u → Found g marks u) → (v : ℕ) → Reached g P v → Found g marks v
found_from_reached marks closed starts v (begin start) = starts v start
found_from_reached {g} marks closed starts v (along a arc opens enters back) =
    subst (Found g marks) enters (closed (g.from a) (found_from_reached marks closed starts (g.from a) back) a arc refl opens)

module _ {g : Digraph} {before first last : Front} {n : ℕ} (nodes : n ≡ g.nodes) (starts : Started n before first) (grown : Grown g first last) where
  started : Started g.nodes before first
  started = subst (λ (m : ℕ). Started m before first) nodes starts

  start : (u : ℕ) → Marked g first.marks.now u → Marked g before.marks.now u
  start u m = elim (cases_eq (get_or before.marks.now u 0) 0) [ inl clear ↦ (m.0, omega (arith, m.1, started.clear u m.0 clear)) | inr some ↦ (m.0, omega arith) ]

  searched : g.nodes ≤ length before.marks.now → Closed g last.marks.now → Searched g before.marks.now last.marks.now (length last.queue.items)
  searched long closed = record {
    long = long;
    marks = λ v node. elim (cases_eq (get_or last.marks.now v 0) 0) [ inl none ↦ inr (none, λ r. omega (arith, (complete v r).1)) | inr some ↦ inl (one v node some, sound v node some) ];
    kept = λ k past. grown.spread.kept k past ∙ started.kept k past;
    counted = grown.queued.counted;
  }
    where
      one : (v : ℕ) → v < g.nodes → (get_or last.marks.now v 0 ≡ 0 → ⊥) → get_or last.marks.now v 0 ≡ 1
      one v node some = omega (arith, grown.queued.bits v node)

      sound : (v : ℕ) → v < g.nodes → (get_or last.marks.now v 0 ≡ 0 → ⊥) → Reached g (Marked g before.marks.now) v
      sound v node some = reached_from (λ u m. begin (start u m)) v (grown.spread.reached v node (omega arith))

      raised : (u : ℕ) → Marked g before.marks.now u → Found g last.marks.now u
      raised u m = (m.0, grown.spread.stays u m.0 (omega (arith, started.raised u m.0 m.1)))

      complete : (v : ℕ) → Reached g (Marked g before.marks.now) v → Found g last.marks.now v
      complete = found_from_reached last.marks.now closed raised

  pub traced : g.nodes ≤ length before.marks.now → g.nodes ≤ length before.hops.now → Closed g last.marks.now → Traced g before.marks.now before.hops.now last.marks.now last.hops.now (length last.queue.items)
  traced long hops_long closed = record {
    searched = searched long closed;
    long = hops_long;
    hop = λ v node one. elim (cases_eq (get_or first.marks.now v 0) 0) [ inl none ↦ inr (grown.paced.entered v node none (omega arith)) | inr some ↦ inl (from_start v (node, omega arith)) ];
    kept = λ k past. grown.paced.kept k past ∙ started.hops_kept k past;
  }
    where
      from_start : (v : ℕ) → Marked g first.marks.now v → (get_or last.hops.now v 0 ≡ 0) × Marked g before.marks.now v
      from_start v m = let was = start v m in (grown.paced.same v m.0 m.1 ∙ started.hop v was.0 was.1, was)
