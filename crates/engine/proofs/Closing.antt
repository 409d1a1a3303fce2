-- A stuck set, seen from the side from which moves lead: no move leaves it, so around it there is slack.
use Rattle.std.proofs.Common.{◌≡◌, ℕ, ◌+◌, ◌<◌, ◌≤◌, Bool, true, false, not, ◌&&◌, eqb, List, length, get_or, sym, ap, ◌∙◌, subst, inl, inr, arith}
use Rattle.std.proofs.lemmas.Bool.{cases_Bool, cases_eq, both_ways, not_from_false, not-true, lt-ltb, eq-eqb, and_from}
use Rattle.retiming.specs.declared.way.Way.{Way}
use Rattle.retiming.specs.declared.way.Way.TheVariants.{Forward, Back}
use Rattle.retiming.proofs.Cap.{flow_below}
use Rattle.retiming.proofs.Sets.{side}
use Rattle.engine.specs.declared.link.Link.{Link}
use Rattle.engine.specs.declared.moves.Move.{Move}
use Rattle.engine.specs.declared.moves.Move.TheVariants.{More, Less, Hand}
use Rattle.engine.specs.Leftover.{source, sink, possible, arc_from, arc_to}
use Rattle.engine.specs.Moves.{wire_of}
use Rattle.engine.specs.Round.{Stuck}
use Rattle.engine.specs.Rows.{holder, shares, flows, Holding}
use Rattle.engine.specs.Step.{inside, beyond, Slack}
use Rattle.engine.specs.Table.{no_link, Tabled, table}
use Rattle.engine.proofs.Certified.{holding_deep}
use Rattle.engine.proofs.Numbered.{number, number_within, numbered_number}

-- the side by its marks
pub side_is : (way : Way) (gates : ℕ) (marks : List ℕ) (g : ℕ) → g < gates → side way (inside gates marks) g ≡ beyond way (get_or marks g 0)
side_is Forward gates marks g l = ap (λ b. b && eqb (get_or marks g 0) 1) (lt-ltb g gates l)
side_is Back gates marks g l = ap (λ b. not (b && eqb (get_or marks g 0) 1)) (lt-ltb g gates l)

module _ (way : Way) (gates : ℕ) (links : List Link) (fixed : List Bool) (depths holders row marks : List ℕ) (tabled : Tabled gates links) (holding : Holding links depths holders row) (stuck : Stuck way gates links fixed depths holders row marks) where
  -- a move that the rows leave does not lead out
  moves_stay : (m : Move) → wire_of m < length links → possible links depths holders row m ≡ true → inside gates marks (arc_from way links holders m) ≡ true → inside gates marks (arc_to way links holders m) ≡ true
  moves_stay m h opened from =
      let a = number (length links) m in
      let is = numbered_number (length links) m h in
      subst (λ (x : Move). inside gates marks (arc_to way links holders x) ≡ true) is
      (stuck.closed a (number_within (length links) m h) (rw is opened) (subst (λ (x : Move). inside gates marks (arc_from way links holders x) ≡ true) (sym is) from))

  pub side_stays : (m : Move) → wire_of m < length links → possible links depths holders row m ≡ true → side way (inside gates marks) (source links holders m) ≡ true → side way (inside gates marks) (sink links m) ≡ true
  side_stays m h opened = go way (moves_stay m h opened)
    where
      go : (w : Way) → (inside gates marks (arc_from w links holders m) ≡ true → inside gates marks (arc_to w links holders m) ≡ true) → side w (inside gates marks) (source links holders m) ≡ true → side w (inside gates marks) (sink links m) ≡ true
      go Forward stay from = stay from
      go Back stay from = elim (cases_Bool (inside gates marks (sink links m))) [
        | inl here ↦ absurd (both_ways _ (not-true _ from) (stay here))
        | inr away ↦ not_from_false _ away
      ]

  -- none that leaves the side has a flow
  pub flows_stay : (k : ℕ) → k < length links → 0 < flows row k → side way (inside gates marks) (get_or links k no_link).driver ≡ true → side way (inside gates marks) (get_or links k no_link).driven ≡ true
  flows_stay k h some = side_stays (Less k) h (lt-ltb 0 (flows row k) some)

  -- the limit on flows keeps no wire shut that would enter the side
  uncapped : (k : ℕ) → k < length links → side way (inside gates marks) (get_or links k no_link).driven ≡ true → side way (inside gates marks) (get_or links k no_link).driver ≡ false → flows row k < 4096
  uncapped k h to from =
      let start = stuck.start in
      let cert = holding_deep {gates = gates} tabled holding in
      omega (arith, tabled.few_links, flow_below (table gates links) tabled.drivers tabled.drivens (shares links holders) (flows row) way (inside gates marks) stuck.willing start.0 start.1.0 start.1.1 cert.bits flows_stay k h to from)

  entering : (k : ℕ) → k < length links → side way (inside gates marks) (get_or links k no_link).driven ≡ true → side way (inside gates marks) (get_or links k no_link).driver ≡ false → 1 ≤ get_or depths k 0
  entering k h to from = elim (cases_eq (get_or depths k 0) 0) [
    | inl none ↦ absurd (both_ways _ from (side_stays (More k) h (and_from _ _ (eq-eqb (get_or depths k 0) 0 none) (lt-ltb (flows row k) 4096 (uncapped k h to from))) to))
    | inr some ↦ omega (arith, some)
  ]

  ahead : (k : ℕ) → k < length links → side way (inside gates marks) (get_or links (holder links holders k) no_link).driven ≡ true → side way (inside gates marks) (get_or links k no_link).driven ≡ false → get_or depths k 0 + 1 ≤ get_or depths (holder links holders k) 0
  ahead k h from to = elim (cases_eq (get_or depths k 0) (get_or depths (holder links holders k) 0)) [
    | inl same ↦ absurd (both_ways _ to (side_stays (Hand k) h (eq-eqb _ _ same) from))
    | inr other ↦ omega (arith, other, holding.deepest k h)
  ]

  at_side : (g : ℕ) (b : Bool) → g < gates → beyond way (get_or marks g 0) ≡ b → side way (inside gates marks) g ≡ b
  at_side g b l e = side_is way gates marks g l ∙ e

  -- there is room for one step at least
  pub slack_one : Slack way links depths holders marks 1
  slack_one k h = record {
    counts = λ to from. entering k h (at_side _ true (tabled.drivens k h) to) (at_side _ false (tabled.drivers k h) from);
    shares = λ from to. ahead k h (at_side _ true (tabled.drivens _ (holding.is_wire k h)) from) (at_side _ false (tabled.drivens k h) to);
  }
