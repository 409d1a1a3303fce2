-- The loop over the nodes that queues each with a nonzero mark.
use Rattle.std.proofs.Common.{◌≡◌, ℕ, ◌+◌, ◌<◌, [], length, get_or, refl, ◌∙◌, inl, inr, arith}
use Rattle.std.proofs.lemmas.Bool.{cases_eq}
use Rattle.graph.specs.declared.reach.Front.{Front}
use Rattle.graph.specs.Frontier.{SameRows, Queued, Enqueued, Started}
use Rattle.graph.proofs.Queueing.{queued_none, queued_skip, queued_start, mark_here, mark_elsewhere, hop_here, hop_elsewhere}

-- the loop's invariant: the nodes below n are started and queued
pub record Starting (before : Front) (n : ℕ) (front : Front) : Type 0 where
  pub same : SameRows before front
  pub queued : Queued n front
  pub started : Started n before front

pub same_rows : (front : Front) → SameRows front front
same_rows front = record { nodes = refl; marks = refl; hops = refl; marks_long = refl; hops_long = refl }

pub same_rows_trans : {a b c : Front} → SameRows a b → SameRows b c → SameRows a c
same_rows_trans one two = record { nodes = two.nodes ∙ one.nodes; marks = two.marks ∙ one.marks; hops = two.hops ∙ one.hops; marks_long = two.marks_long ∙ one.marks_long; hops_long = two.hops_long ∙ one.hops_long }

pub starting_none : (front : Front) → front.queue.items ≡ [] → Starting front 0 front
starting_none front empty = record {
  same = same_rows front;
  queued = queued_none front empty;
  started = record {
    raised = λ v h. absurd (omega arith);
    clear = λ v h. absurd (omega arith);
    kept = λ k h. refl;
    hop = λ v h. absurd (omega arith);
    hops_kept = λ k h. refl;
  };
}

module _ {before front : Front} {n : ℕ} (old : Starting before n front) where
  -- the mark at the bound is as it was
  same : get_or front.marks.now n 0 ≡ get_or before.marks.now n 0
  same = old.started.kept n (omega arith)

  pub starting_skip : get_or front.marks.now n 0 ≡ 0 → Starting before (n + 1) front
  starting_skip clear = record {
    same = old.same;
    queued = queued_skip old.queued clear;
    started = record {
      raised = λ v h some. elim (cases_eq v n) [ inl e ↦ omega (arith, same, clear, rw e at some) | inr ne ↦ old.started.raised v (omega arith) some ];
      clear = λ v h none. elim (cases_eq v n) [ inl e ↦ rw e clear | inr ne ↦ old.started.clear v (omega arith) none ];
      kept = λ k h. old.started.kept k (omega arith);
      hop = λ v h some. elim (cases_eq v n) [ inl e ↦ omega (arith, same, clear, rw e at some) | inr ne ↦ old.started.hop v (omega arith) some ];
      hops_kept = λ k h. old.started.hops_kept k (omega arith);
    };
  }

  pub starting_more : {front' : Front} → SameRows front front' → Enqueued n 0 front front' → 0 < get_or front.marks.now n 0 → n < front.nodes → Starting before (n + 1) front'
  starting_more same_rows done some node = record {
    same = same_rows_trans old.same same_rows;
    queued = queued_start done old.queued long hops_long;
    started = record {
      raised = λ v h was. elim (cases_eq v n) [ inl e ↦ rw e (mark_here done long) | inr ne ↦ mark_elsewhere done v ne ∙ old.started.raised v (omega arith) was ];
      clear = λ v h none. elim (cases_eq v n) [ inl e ↦ omega (arith, same, some, rw e at none) | inr ne ↦ mark_elsewhere done v ne ∙ old.started.clear v (omega arith) none ];
      kept = λ k h. mark_elsewhere done k (λ e. omega arith) ∙ old.started.kept k (omega arith);
      hop = λ v h was. elim (cases_eq v n) [ inl e ↦ rw e (hop_here done hops_long) | inr ne ↦ hop_elsewhere done v ne ∙ old.started.hop v (omega arith) was ];
      hops_kept = λ k h. hop_elsewhere done k (λ e. omega arith) ∙ old.started.hops_kept k (omega arith);
    };
  }
    where
      long : n < length front.marks.now
      long = omega (arith, front.marks_long)

      hops_long : n < length front.hops.now
      hops_long = omega (arith, front.hops_long)
