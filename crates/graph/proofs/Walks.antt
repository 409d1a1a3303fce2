-- The two loops of the search: along the chain of the arcs that leave one node, and over the nodes of the queue.
use Rattle.std.proofs.Common.{◌≡◌, ℕ, ◌+◌, ◌<◌, ◌≤◌, Bool, true, false, ◌⊎◌, Option, Some, None, IfSome, length, get_or, sym, ◌∙◌, subst, inl, inr, arith}
use Rattle.std.proofs.lemmas.Bool.{both_ways, cases_eq}
use Rattle.graph.specs.declared.reach.Front.{Front}
use Rattle.graph.specs.Digraph.{Digraph, Arc}
use Rattle.graph.specs.Chains.{Last}
use Rattle.graph.specs.Frontier.{SameRows, Queued, Enqueued, Grown, Found, Left, Closed}
use Rattle.graph.proofs.Queueing.{queue_lt, one_from_pos, mark_here}
use Rattle.graph.proofs.Starts.{same_rows, same_rows_trans}
use Rattle.graph.proofs.Growth.{found_stays, grown_none, grown_one, grown_trans}

-- the arcs that a chain still holds are below this
abbrev pub bound : Option ℕ → ℕ
bound None = 0
bound (Some k) = k + 1

last_leaves : (g : Digraph) (v m : ℕ) (link : Option ℕ) → Last g v m link → IfSome link (λ k. (k < m) × (g.from k ≡ v))
last_leaves g v m None last = tt
last_leaves g v m (Some k) last = (last.0, last.1)

last_bound : (g : Digraph) (v m : ℕ) (link : Option ℕ) → Last g v m link → (a : ℕ) → a < m → g.from a ≡ v → a < bound link
last_bound g v m None last a h leaves = absurd (last a h leaves)
last_bound g v m (Some k) last a h leaves = omega (arith, last.2 a h leaves)

-- links fall along a chain
pub bound_falls : (g : Digraph) (v m : ℕ) (link : Option ℕ) → Last g v m link → bound link ≤ m
bound_falls g v m None last = omega arith
bound_falls g v m (Some k) last = omega (arith, last.0)

-- the walk along the chain of v: each open arc that leaves v is still to come, or enters a node with the mark 1
pub record Walking (g : Digraph) (v : ℕ) (link : Option ℕ) (first front : Front) : Type 0 where
  pub same : SameRows first front
  pub grown : Grown g first front
  pub leaves : IfSome link (λ k. (k < g.arcs) × (g.from k ≡ v))
  pub passed : (a : ℕ) → a < g.arcs → g.from a ≡ v → g.opens a ≡ true → (a < bound link) ⊎ Found g front.marks.now (g.to a)

pub walking_first : {g : Digraph} {v : ℕ} {link : Option ℕ} {front : Front} → Queued g.nodes front → Last g v g.arcs link → Walking g v link front front
walking_first {g} {v} {link} {front} queued last = record {
  same = same_rows front;
  grown = grown_none queued;
  leaves = last_leaves g v g.arcs link last;
  passed = λ a arc leaves opens. inl (last_bound g v g.arcs link last a arc leaves);
}

pub walking_end : {g : Digraph} {v : ℕ} {first front : Front} → Walking g v None first front → Left g front.marks.now v
walking_end old a arc leaves opens = elim (old.passed a arc leaves opens) [ inl before ↦ absurd (omega arith) | inr found ↦ found ]

-- past arc k, which runs from u to w and is open where o is true
module _ {g : Digraph} {v k : ℕ} {first front : Front} (old : Walking g v (Some k) first front) {u w : ℕ} {o : Bool} (arc : Arc g k u w o) where
  pub node_fits : first.nodes ≡ g.nodes → w < front.nodes
  node_fits nodes = omega (arith, arc.to_node, old.same.nodes, nodes)

  pub mark_fits : first.nodes ≡ g.nodes → w < length front.marks.now
  mark_fits nodes = omega (arith, node_fits nodes, front.marks_long)

  hop_fits : first.nodes ≡ g.nodes → w < length front.hops.now
  hop_fits nodes = omega (arith, node_fits nodes, front.hops_long)

  pub queue_fits : first.nodes ≡ g.nodes → get_or front.marks.now w 0 ≡ 0 → length front.queue.items < 8192
  queue_fits nodes clear = omega (arith, queue_lt old.grown.queued w arc.to_node clear, nodes, first.few)

  -- next is the link behind arc k
  module _ (next : Option ℕ) (last : Last g (g.from k) k next) where
    walking_next : {front' : Front} → SameRows front front' → Grown g front front' → (g.opens k ≡ true → Found g front'.marks.now (g.to k)) → Walking g v next first front'
    walking_next {front'} rows more here = record {
      same = same_rows_trans old.same rows;
      grown = grown_trans old.grown more;
      leaves = leaves next last;
      passed = λ a arc leaves opens.
          elim (old.passed a arc leaves opens) [
            | inl before ↦ step a leaves opens before (cases_eq a k)
            | inr found ↦ inr (found_stays more.spread (g.to a) found)
          ];
    }
      where
        leaves : (link : Option ℕ) → Last g (g.from k) k link → IfSome link (λ j. (j < g.arcs) × (g.from j ≡ v))
        leaves None last = tt
        leaves (Some j) last = (omega (arith, last.0, old.leaves.0), last.1 ∙ old.leaves.1)

        step : (a : ℕ) → g.from a ≡ v → g.opens a ≡ true → a < k + 1 → (a ≡ k) ⊎ (a ≡ k → ⊥) → (a < bound next) ⊎ Found g front'.marks.now (g.to a)
        step a leaves opens before (inl e) = inr (rw e (here (rw e at opens)))
        step a leaves opens before (inr ne) = inl (last_bound g (g.from k) k next last a (omega arith) (leaves ∙ sym old.leaves.1))

    pub walking_shut : o ≡ false → Walking g v next first front
    walking_shut shut = walking_next (same_rows front) (grown_none old.grown.queued) (λ opens. absurd (both_ways o shut (arc.open_is ∙ opens)))

    pub walking_known : (get_or front.marks.now w 0 ≡ 0 → ⊥) → Walking g v next first front
    walking_known known = walking_next (same_rows front) (grown_none old.grown.queued) (λ opens. subst (Found g front.marks.now) arc.enters (arc.to_node, one))
      where
        one : get_or front.marks.now w 0 ≡ 1
        one = one_from_pos old.grown.queued w arc.to_node (omega arith)

    pub walking_found : {front' : Front} → SameRows front front' → Enqueued w (get_or first.hops.now v 0 + 1) front front' → first.nodes ≡ g.nodes → Found g first.marks.now v → o ≡ true → get_or front.marks.now w 0 ≡ 0 → Walking g v next first front'
    walking_found {front'} rows done nodes start opened clear = walking_next rows more (λ opens. subst (Found g front'.marks.now) arc.enters (arc.to_node, mark_here done (mark_fits nodes)))
      where
        origin : Found g front.marks.now (g.from k)
        origin = subst (Found g front.marks.now) (sym old.leaves.1) (found_stays old.grown.spread v start)

        hop : get_or first.hops.now v 0 + 1 ≡ get_or front.hops.now (g.from k) 0 + 1
        hop = rw old.leaves.1 (omega (arith, old.grown.paced.same v start.0 (omega (arith, start.1))))

        more : Grown g front front'
        more = grown_one done old.grown.queued k old.leaves.0 (sym arc.open_is ∙ opened) origin (sym arc.enters) arc.to_node clear hop (mark_fits nodes) (hop_fits nodes)

-- the walk over the queue: the nodes before head are visited
pub record Visiting (g : Digraph) (first front : Front) (head : ℕ) : Type 0 where
  pub same : SameRows first front
  pub grown : Grown g first front
  pub visited : (q : ℕ) → q < head → Left g front.marks.now (get_or front.queue.items q 0)

pub visiting_first : {g : Digraph} {front : Front} → Queued g.nodes front → Visiting g front front 0
visiting_first {front = front} queued = record { same = same_rows front; grown = grown_none queued; visited = λ q h. absurd (omega arith) }

module _ {g : Digraph} {first front : Front} {head : ℕ} (old : Visiting g first front head) where
  pub visiting_next : {front' : Front} → head < length front.queue.items → SameRows front front' → Grown g front front' → Left g front'.marks.now (get_or front.queue.items head 0) → Visiting g first front' (head + 1)
  visiting_next {front'} queued rows more left = record {
    same = same_rows_trans old.same rows;
    grown = grown_trans old.grown more;
    visited = λ q h. subst (Left g front'.marks.now) (sym (more.kept q (omega arith))) (still q h (cases_eq q head));
  }
    where
      still : (q : ℕ) → q < head + 1 → (q ≡ head) ⊎ (q ≡ head → ⊥) → Left g front'.marks.now (get_or front.queue.items q 0)
      still q h (inl e) = rw e left
      still q h (inr ne) = λ a arc leaves opens. found_stays more.spread (g.to a) (old.visited q (omega arith) a arc leaves opens)

  pub visiting_end : length front.queue.items ≤ head → Closed g front.marks.now
  visiting_end end v found =
      let p = old.grown.queued.place v found.0 found.1 in
      subst (Left g front.marks.now) p.2 (old.visited p.0 (omega (arith, p.1)))
