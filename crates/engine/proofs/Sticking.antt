-- A search from all seeds that finds no sink leaves a stuck set.
use Rattle.std.proofs.Common.{◌≡◌, ℕ, ◌*◌, ◌<◌, Bool, true, false, ◌⊎◌, List, length, get_or, refl, subst, subst₂, inl, inr, arith}
use Rattle.std.proofs.lemmas.Bool.{and_parts, and_from, lt-ltb, ltb-true, eq-eqb, eqb-true}
use Rattle.graph.specs.Reach.{Reached, Marked, Searched}
use Rattle.graph.specs.Trace.{Traced}
use Rattle.retiming.specs.declared.way.Way.{Way}
use Rattle.retiming.specs.Tied.{Excess, Spent, Tied, Follows, seed, step, opposite}
use Rattle.engine.specs.declared.link.Link.{Link}
use Rattle.engine.specs.declared.moves.Move.{Move}
use Rattle.engine.specs.Leftover.{leftover, arc_to}
use Rattle.engine.specs.Moves.{numbered, wire_of}
use Rattle.engine.specs.Pick.{Seed, Sink, Seeded}
use Rattle.engine.specs.Round.{Over, Done, InnerSeed, Stuck}
use Rattle.engine.specs.Rows.{deep, shares, flows, Holding, Priced}
use Rattle.engine.specs.Step.{inside}
use Rattle.engine.specs.Hops.{Hops}
use Rattle.engine.specs.Table.{Tabled, bundles, fixed_of}
use Rattle.engine.proofs.Leftovers.{open_follows}
use Rattle.engine.proofs.Numbered.{wire_within}

pub inside_from : (gates : ℕ) (marks : List ℕ) (g : ℕ) → g < gates → get_or marks g 0 ≡ 1 → inside gates marks g ≡ true
inside_from gates marks g l m = and_from _ _ (lt-ltb g gates l) (eq-eqb (get_or marks g 0) 1 m)

pub inside_parts : (gates : ℕ) (marks : List ℕ) (g : ℕ) → inside gates marks g ≡ true → (g < gates) × (get_or marks g 0 ≡ 1)
inside_parts gates marks g i = let p = and_parts _ _ i in (ltb-true g gates p.0, eqb-true (get_or marks g 0) 1 p.1)

module _ (way : Way) (gates : ℕ) (links : List Link) (fixed : List Bool) (depths holders row gains costs : List ℕ)
    (tabled : Tabled gates links) (holding : Holding links depths holders row) (priced : Priced gates links holders row gains costs) where
  over_from : (g : ℕ) → g < gates → Excess way (get_or gains g 0) (get_or costs g 0) → Over way gates links holders row g
  over_from g l e = subst₂ (λ (x y : ℕ). Excess way x y) (priced.gains_are g l) (priced.costs_are g l) e

  done_from : (w : Way) (g : ℕ) → g < gates → Spent w (get_or gains g 0) (get_or costs g 0) → Done w gates links holders row g
  done_from w g l e = subst₂ (λ (x y : ℕ). Spent w x y) (priced.gains_are g l) (priced.costs_are g l) e

  module _ (first marks : List ℕ) (n : ℕ) (seeded : Seeded way gates fixed gains costs first) (searched : Searched (leftover way gates links depths holders row) first marks n) where
    reached_mark : (v : ℕ) → v < gates → Reached (leftover way gates links depths holders row) (Marked (leftover way gates links depths holders row) first) v → get_or marks v 0 ≡ 1
    reached_mark v l r = elim (searched.marks v l) [ inl m ↦ m.0 | inr m ↦ absurd (m.1 r) ]

    mark_reached : (v : ℕ) → v < gates → get_or marks v 0 ≡ 1 → Reached (leftover way gates links depths holders row) (Marked (leftover way gates links depths holders row) first) v
    mark_reached v l e = elim (searched.marks v l) [ inl m ↦ m.1 | inr m ↦ absurd (omega (arith, m.0, e)) ]

    start_seed : (s : ℕ) → Marked (leftover way gates links depths holders row) first s → InnerSeed way gates links holders row marks s
    start_seed s m = elim (seeded.each s m.0) [
      | inl is ↦ (inside_from gates marks s m.0 (reached_mark s m.0 (Reached.begin m)), (m.0, over_from s m.0 is.1.1))
      | inr none ↦ absurd (omega (arith, none.0, m.1))
    ]

    tied_from : (v : ℕ) → Reached (leftover way gates links depths holders row) (Marked (leftover way gates links depths holders row) first) v → Tied way (deep gates links depths) (bundles links) (shares links holders) (flows row) (InnerSeed way gates links holders row marks) v
    tied_from v (Reached.begin m) = seed (start_seed v m)
    tied_from v (Reached.along a is_arc is_open enters r) =
        step (tied_from _ r) (subst (λ (y : ℕ). Follows way (deep gates links depths) (bundles links) (shares links holders) (flows row) ((leftover way gates links depths holders row).from a) y 0) enters (open_follows gates links depths holders row tabled holding way a is_arc is_open))

    pub stuck_from : ((a : ℕ) → a < 3 * length links → (leftover way gates links depths holders row).to a < gates) → ((g : ℕ) → g < gates → get_or marks g 0 ≡ 1 → (fixed_of fixed g ≡ false) × Spent (opposite way) (get_or gains g 0) (get_or costs g 0)) → (s : ℕ) → s < gates → Seed way fixed gains costs s → Stuck way gates links fixed depths holders row marks
    stuck_from ends none s l is = record {
      free = λ g h i. (none g h (inside_parts gates marks g i).1).0;
      willing = λ g h i. done_from (opposite way) g h (none g h (inside_parts gates marks g i).1).1;
      closed = λ a h opened i. let p = inside_parts gates marks _ i in inside_from gates marks _ (ends a h) (reached_mark _ (ends a h) (Reached.along a h opened refl (mark_reached _ p.0 p.1)));
      tied = λ g h i. tied_from g (mark_reached g h (inside_parts gates marks g i).1);
      start = (s, start_seed s (l, marked s l is));
    }
      where
        spent_over : (w : Way) (x y : ℕ) → Spent w x y → Excess w x y → ⊥
        spent_over Way.Forward x y a b = omega arith
        spent_over Way.Back x y a b = omega arith

        marked : (g : ℕ) → g < gates → Seed way fixed gains costs g → 0 < get_or first g 0
        marked g h is = elim (seeded.each g h) [ inl m ↦ omega (arith, m.0) | inr m ↦ absurd (spent_over way _ _ (m.1 is.0) is.1) ]

  -- what the search leaves to walk back on, and where the walk ends
  module _ (first marks hops hops' : List ℕ) (n : ℕ) (seeded : Seeded way gates fixed gains costs first) (traced : Traced (leftover way gates links depths holders row) first hops marks hops' n) where
    pub hops_from : Hops (leftover way gates links depths holders row) marks hops'
    hops_from v l m = elim (traced.hop v l m) [
      | inl start ↦ inl start.0
      | inr e ↦ inr (e.0, record { is_arc = e.1; opened = e.2; enters = e.3; inside = e.4; marked = e.5; lower = e.6 })
    ]

    pub start_from : (v : ℕ) → v < gates → get_or marks v 0 ≡ 1 → get_or hops' v 0 ≡ 0 → (fixed_of fixed v ≡ false) × Over way gates links holders row v
    start_from v l m zero = elim (traced.hop v l m) [
      | inl start ↦ elim (seeded.each v l) [ inl is ↦ (is.1.0, over_from v l is.1.1) | inr none ↦ absurd (omega (arith, none.0, start.1.1)) ]
      | inr entered ↦ absurd (omega (arith, zero, entered.6))
    ]

  pub sink_from : (t : ℕ) → t < gates → Sink way fixed gains costs t → (fixed_of fixed t ≡ true) ⊎ Over (opposite way) gates links holders row t
  sink_from t l (inl f) = inl f
  sink_from t l (inr e) = inr (subst₂ (λ (x y : ℕ). Excess (opposite way) x y) (priced.gains_are t l) (priced.costs_are t l) e)

-- the ends of arcs are gates
pub arc_within : (way : Way) (gates : ℕ) (links : List Link) (depths holders row : List ℕ) → Tabled gates links → Holding links depths holders row → (a : ℕ) → a < 3 * length links → (leftover way gates links depths holders row).to a < gates
arc_within way gates links depths holders row tabled holding a l = go way (numbered (length links) a) (wire_within (length links) a l)
  where
    go : (w : Way) (m : Move) → wire_of m < length links → arc_to w links holders m < gates
    go Way.Forward (Move.More k) h = tabled.drivers k h
    go Way.Forward (Move.Less k) h = tabled.drivens k h
    go Way.Forward (Move.Hand k) h = tabled.drivens k h
    go Way.Back (Move.More k) h = tabled.drivens k h
    go Way.Back (Move.Less k) h = tabled.drivers k h
    go Way.Back (Move.Hand k) h = tabled.drivens _ (holding.is_wire k h)
