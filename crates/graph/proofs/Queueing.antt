-- The queue, the marks and the hops as one more node is marked and queued.
use Rattle.std.proofs.Common.{◌≡◌, ℕ, ◌+◌, ◌<◌, ◌≤◌, [], ◌∷◌, length, length-append, get_or, sym, ◌∙◌, ap, inl, inr, add-one, arith}
use Rattle.std.proofs.lemmas.List.{get_or-set_same, get_or-set_other, get_or_append_left}
use Rattle.std.proofs.Math.Seq.{get_or-append_seam}
use Rattle.std.proofs.lemmas.Bool.{cases_eq}
use Rattle.graph.specs.declared.reach.Front.{Front}
use Rattle.graph.specs.Frontier.{Queued, Enqueued}
use Rattle.graph.specs.Sums.{total}
use Rattle.graph.proofs.Totals.{total_same, total_change, total_bits_le, total_bits_lt}

pub queued_none : (front : Front) → front.queue.items ≡ [] → Queued 0 front
queued_none front empty = record {
  bits = λ v h. absurd (omega arith);
  counted = ap length empty;
  node = λ q h. absurd (omega (arith, ap length empty));
  marked = λ q h. absurd (omega (arith, ap length empty));
  place = λ v h e. absurd (omega arith);
  near = λ q h. absurd (omega (arith, ap length empty));
}

module _ {n : ℕ} {front : Front} (old : Queued n front) where
  pub queue_le : length front.queue.items ≤ n
  queue_le = omega (arith, old.counted, total_bits_le (λ v. get_or front.marks.now v 0) n old.bits)

  pub queue_lt : (v : ℕ) → v < n → get_or front.marks.now v 0 ≡ 0 → length front.queue.items < n
  queue_lt v node clear = omega (arith, old.counted, total_bits_lt (λ u. get_or front.marks.now u 0) n v old.bits node clear)

  pub one_from_pos : (v : ℕ) → v < n → 0 < get_or front.marks.now v 0 → get_or front.marks.now v 0 ≡ 1
  one_from_pos v node some = omega (arith, old.bits v node)

  pub hop_lt : (v : ℕ) → v < n → get_or front.marks.now v 0 ≡ 1 → get_or front.hops.now v 0 < length front.queue.items
  hop_lt v node one = let p = old.place v node one in omega (arith, p.1, rw p.2 at (old.near p.0 p.1))

  -- a node without a mark at the bound, which then moves past it
  pub queued_skip : get_or front.marks.now n 0 ≡ 0 → Queued (n + 1) front
  queued_skip clear = record {
    bits = λ v h. elim (cases_eq v n) [ inl e ↦ rw e (omega arith) | inr ne ↦ old.bits v (omega arith) ];
    counted = rw add-one (omega (arith, old.counted));
    node = λ q h. omega (arith, old.node q h);
    marked = old.marked;
    place = λ v h one. old.place v (below v h one) one;
    near = old.near;
  }
    where
      below : (v : ℕ) → v < n + 1 → get_or front.marks.now v 0 ≡ 1 → v < n
      below v h one = elim (cases_eq v n) [ inl e ↦ omega (arith, clear, rw e at one) | inr ne ↦ omega arith ]

module _ {u d : ℕ} {front front' : Front} (done : Enqueued u d front front') where
  pub mark_here : u < length front.marks.now → get_or front'.marks.now u 0 ≡ 1
  mark_here long = rw done.marks (get_or-set_same front.marks.now u 1 0 long)

  pub mark_elsewhere : (v : ℕ) → (v ≡ u → ⊥) → get_or front'.marks.now v 0 ≡ get_or front.marks.now v 0
  mark_elsewhere v ne = rw done.marks (get_or-set_other front.marks.now u v 1 0 ne)

  pub hop_here : u < length front.hops.now → get_or front'.hops.now u 0 ≡ d
  hop_here long = rw done.hops (get_or-set_same front.hops.now u d 0 long)

  pub hop_elsewhere : (v : ℕ) → (v ≡ u → ⊥) → get_or front'.hops.now v 0 ≡ get_or front.hops.now v 0
  hop_elsewhere v ne = rw done.hops (get_or-set_other front.hops.now u v d 0 ne)

  pub longer : length front'.queue.items ≡ length front.queue.items + 1
  longer = rw done.queue (length-append front.queue.items (u ∷ []))

  pub place_before : (q : ℕ) → q < length front.queue.items → get_or front'.queue.items q 0 ≡ get_or front.queue.items q 0
  place_before q h = rw done.queue (get_or_append_left front.queue.items (u ∷ []) 0 q h)

  end : get_or front'.queue.items (length front.queue.items) 0 ≡ u
  end = rw done.queue (get_or-append_seam front.queue.items u [] 0)

  module _ {n : ℕ} (old : Queued n front) where
    -- node u more, under a bound m that differs from n by u at most
    module _ (m : ℕ) (wider : n ≤ m) (node : u < m) (others : (v : ℕ) → v < m → (v ≡ u → ⊥) → v < n) (long : u < length front.marks.now) (hops_long : u < length front.hops.now) (short : d ≤ length front.queue.items) (new : (q : ℕ) → q < length front.queue.items → get_or front.queue.items q 0 ≡ u → ⊥) where
      push_bits : (v : ℕ) → v < m → get_or front'.marks.now v 0 ≤ 1
      push_bits v h = elim (cases_eq v u) [ inl e ↦ rw e (omega (arith, mark_here long)) | inr ne ↦ omega (arith, mark_elsewhere v ne, old.bits v (others v h ne)) ]

      before : (q : ℕ) → q < length front'.queue.items → (q ≡ length front.queue.items → ⊥) → q < length front.queue.items
      before q h ne = omega (arith, longer)

      push_node : (q : ℕ) → q < length front'.queue.items → get_or front'.queue.items q 0 < m
      push_node q h = elim (cases_eq q (length front.queue.items)) [ inl e ↦ rw e (omega (arith, end)) | inr ne ↦ let p = before q h ne in omega (arith, place_before q p, old.node q p) ]

      still : (v : ℕ) → get_or front.marks.now v 0 ≡ 1 → get_or front'.marks.now v 0 ≡ 1
      still v one = elim (cases_eq v u) [ inl e ↦ rw e (mark_here long) | inr ne ↦ mark_elsewhere v ne ∙ one ]

      push_marked : (q : ℕ) → q < length front'.queue.items → get_or front'.marks.now (get_or front'.queue.items q 0) 0 ≡ 1
      push_marked q h = elim (cases_eq q (length front.queue.items)) [ inl e ↦ rw (e, end) (mark_here long) | inr ne ↦ let p = before q h ne in rw (place_before q p) (still (get_or front.queue.items q 0) (old.marked q p)) ]

      push_place : (v : ℕ) → v < m → get_or front'.marks.now v 0 ≡ 1 → (q : ℕ) × (q < length front'.queue.items) × (get_or front'.queue.items q 0 ≡ v)
      push_place v h one =
          elim (cases_eq v u) [
            | inl e ↦ (length front.queue.items, omega (arith, longer), end ∙ sym e)
            | inr ne ↦ let p = old.place v (others v h ne) (sym (mark_elsewhere v ne) ∙ one) in (p.0, omega (arith, longer, p.1), place_before p.0 p.1 ∙ p.2)
          ]

      push_near : (q : ℕ) → q < length front'.queue.items → get_or front'.hops.now (get_or front'.queue.items q 0) 0 ≤ q
      push_near q h =
          elim (cases_eq q (length front.queue.items)) [
            | inl e ↦ rw (e, end) (omega (arith, hop_here hops_long))
            | inr ne ↦ let p = before q h ne in rw (place_before q p) (omega (arith, hop_elsewhere (get_or front.queue.items q 0) (new q p), old.near q p))
          ]

      queued_push : total (λ v. get_or front'.marks.now v 0) m ≡ length front.queue.items + 1 → Queued m front'
      queued_push counted = record { bits = push_bits; counted = longer ∙ sym counted; node = push_node; marked = push_marked; place = push_place; near = push_near }

    -- a node below the bound that had no mark
    pub queued_new : u < n → get_or front.marks.now u 0 ≡ 0 → d ≤ length front.queue.items → u < length front.marks.now → u < length front.hops.now → Queued n front'
    queued_new node clear short long hops_long = queued_push n (omega arith) node (λ v h ne. h) long hops_long short (λ q h e. omega (arith, clear, rw e at (old.marked q h))) counted
      where
        counted : total (λ v. get_or front'.marks.now v 0) n ≡ length front.queue.items + 1
        counted = omega (arith, old.counted, clear, mark_here long, total_change (λ v. get_or front'.marks.now v 0) (λ v. get_or front.marks.now v 0) n u node (λ k h ne. mark_elsewhere k ne))

-- the node at the bound, which then moves past it
pub queued_start : {n : ℕ} {front front' : Front} → Enqueued n 0 front front' → Queued n front → n < length front.marks.now → n < length front.hops.now → Queued (n + 1) front'
queued_start {n} {front} {front'} done old long hops_long = queued_push done old (n + 1) (omega arith) (omega arith) (λ v h ne. omega arith) long hops_long (omega arith) (λ q h e. omega (arith, old.node q h)) counted
  where
    counted : total (λ v. get_or front'.marks.now v 0) (n + 1) ≡ length front.queue.items + 1
    counted = rw (add-one n) (omega (arith, old.counted, mark_here done long, total_same (λ v. get_or front'.marks.now v 0) (λ v. get_or front.marks.now v 0) n (λ k h. mark_elsewhere done k (λ e. omega arith))))
