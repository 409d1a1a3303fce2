-- A search from one node decides whether open arcs lead from it to another.
use Rattle.std.proofs.Common.{◌≡◌, ℕ, ◌<◌, ◌≤◌, eqb, ◌⊎◌, List, length, get_or, set, replicate, Ok, Err, MatchBool, Result, sym, ◌∙◌, subst, inl, inr, arith, MatchResult}
use Rattle.std.proofs.lemmas.List.{get_or-set_same, get_or-set_other, get_or-replicate, length-replicate, length-set}
use Rattle.std.proofs.lemmas.Bool.{cases_eq}
use Rattle.graph.specs.declared.fault.SearchFault.{SearchFault}
use Rattle.graph.proofs.Growth.{reached_from}
use Rattle.graph.specs.Digraph.{Digraph}
use Rattle.graph.specs.Reach.{Reached, Leads, Marked, Searched, Refused}

module _ (g : Digraph) (size from : ℕ) (node : from < g.nodes) (room : g.nodes ≤ size) where
  -- a row of marks with the one start
  abbrev start : List ℕ
  start = set (replicate size 0) from 1

  long : length start ≡ size
  long = simp (length-set, length-replicate)

  marked_is : (v : ℕ) → Marked g start v → v ≡ from
  marked_is v m = elim (cases_eq v from) [
    | inl e ↦ e
    | inr other ↦ let clear : get_or start v 0 ≡ 0 = get_or-set_other (replicate size 0) from v 1 0 other ∙ get_or-replicate size v 0 0 (omega (arith, m.0)) in absurd (omega (arith, clear, m.1))
  ]

  is_marked : (v : ℕ) → v ≡ from → Marked g start v
  is_marked v e = subst (Marked g start) (sym e) (node, omega (arith, get_or-set_same {A = ℕ} (replicate size 0) from 1 0 (simp length-replicate (omega arith))))

  decided : (after : List ℕ) (to : ℕ) → ((get_or after to 0 ≡ 1) × Reached g (Marked g start) to) ⊎ ((get_or after to 0 ≡ 0) × (Reached g (Marked g start) to → ⊥)) → MatchBool (eqb (get_or after to 0) 1) (Leads g from to) (Leads g from to → ⊥)
  decided after to (inl m) = rw m.0 (reached_from (λ u h. Reached.begin (marked_is u h)) to m.1)
  decided after to (inr m) = rw m.0 (λ r. m.1 (reached_from (λ u h. Reached.begin (is_marked u h)) to r))

  pub leads_answer : (after : List ℕ) (to : ℕ) → to < g.nodes → (r : Result ℕ SearchFault) → MatchResult r (λ n. Searched g start after n) (λ f. Refused g start after f) → MatchBool (eqb (get_or after to 0) 1) (Leads g from to) (Leads g from to → ⊥)
  leads_answer after to is_node (Ok n) s = decided after to (s.marks to is_node)
  leads_answer after to is_node (Err f) s = absurd (omega (arith, s.short, long))
