-- A step back along the last arc into a gate leaves the arcs that lower hops need.
use Rattle.std.proofs.Common.{◌≡◌, ℕ, ◌+◌, ◌<◌, ◌&&◌, eqb, ltb, List, length, get_or, set, sym, refl, ap, ◌∙◌, subst, inl, inr, arith}
use Rattle.std.proofs.lemmas.List.{get_or-set_other}
use Rattle.retiming.specs.declared.way.Way.{Way}
use Rattle.retiming.specs.declared.way.Way.TheVariants.{Forward, Back}
use Rattle.engine.specs.declared.link.Link.{Link}
use Rattle.engine.specs.declared.moves.Move.{Move}
use Rattle.engine.specs.declared.moves.Move.TheVariants.{More, Less, Hand}
use Rattle.engine.specs.Carried.{flows_after, holders_after}
use Rattle.engine.specs.Hops.{LastArc, HopsTo}
use Rattle.engine.specs.Leftover.{leftover, source, sink, possible, arc_from, arc_to}
use Rattle.engine.specs.Moves.{numbered}
use Rattle.engine.specs.Table.{no_link}
use Rattle.engine.proofs.Holders.{one_holder, holder_else}

-- the ends of a move stay with its source
from_kept : (way : Way) (links : List Link) (holders holders' : List ℕ) (b : Move) → source links holders' b ≡ source links holders b → arc_from way links holders' b ≡ arc_from way links holders b
from_kept Forward links holders holders' b same = same
from_kept Back links holders holders' b same = refl

to_kept : (way : Way) (links : List Link) (holders holders' : List ℕ) (b : Move) → source links holders' b ≡ source links holders b → arc_to way links holders' b ≡ arc_to way links holders b
to_kept Forward links holders holders' b same = refl
to_kept Back links holders holders' b same = same

module _ (way : Way) (links : List Link) (depths holders row : List ℕ) (hop : ℕ → ℕ) where
  -- the hop rises by one along a move
  abbrev Rises : Move → Type 0
  Rises m = hop (arc_to way links holders m) ≡ hop (arc_from way links holders m) + 1

  -- move b ends at a lower hop than move m
  abbrev Lower : Move → Move → Type 0
  Lower b m = hop (arc_to way links holders b) < hop (arc_to way links holders m)

  ends_sum : (m : Move) → hop (arc_from way links holders m) + hop (arc_to way links holders m) ≡ hop (source links holders m) + hop (sink links m)
  ends_sum m = elim way as (λ w. hop (arc_from w links holders m) + hop (arc_to w links holders m) ≡ hop (source links holders m) + hop (sink links m)) [ Forward ↦ refl | Back ↦ omega arith ]

  -- two such moves share neither both ends nor the source
  ends_apart : (m b : Move) → Rises m → Rises b → Lower b m → hop (source links holders b) + hop (sink links b) ≡ hop (source links holders m) + hop (sink links m) → ⊥
  ends_apart m b rm rb low same = omega (arith, ends_sum m, ends_sum b)

  source_apart : (w : Way) (m b : Move) → hop (arc_to w links holders m) ≡ hop (arc_from w links holders m) + 1 → hop (arc_to w links holders b) ≡ hop (arc_from w links holders b) + 1 → hop (arc_to w links holders b) < hop (arc_to w links holders m) → hop (source links holders b) ≡ hop (source links holders m) → ⊥
  source_apart Forward m b rm rb low same = omega arith
  source_apart Back m b rm rb low same = omega arith

  abbrev SourceKept : Move → Move → Type 0
  SourceKept m b = source links (holders_after links m holders) b ≡ source links holders b

  abbrev StillLeft : Move → Move → Type 0
  StillLeft m b = possible links depths (holders_after links m holders) (flows_after m row) b ≡ possible links depths holders row b

  more_left : (k j v : ℕ) → (j ≡ k → ⊥) → possible links depths holders (set row k v) (More j) ≡ possible links depths holders row (More j)
  more_left k j v other = ap (λ f. eqb (get_or depths j 0) 0 && ltb f 4096) (get_or-set_other row k j v 0 other)

  less_left : (k j v : ℕ) → (j ≡ k → ⊥) → possible links depths holders (set row k v) (Less j) ≡ possible links depths holders row (Less j)
  less_left k j v other = ap (ltb 0) (get_or-set_other row k j v 0 other)

  wire_sum : (j k : ℕ) → j ≡ k → hop (get_or links j no_link).driven + hop (get_or links j no_link).driver ≡ hop (get_or links k no_link).driven + hop (get_or links k no_link).driver
  wire_sum j k is = ap (λ i. hop (get_or links i no_link).driven + hop (get_or links i no_link).driver) is

  share_apart : (j k : ℕ) → Rises (Hand k) → Rises (Hand j) → Lower (Hand j) (Hand k) → (get_or links j no_link).bundle ≡ (get_or links k no_link).bundle → ⊥
  share_apart j k rm rb low same = source_apart way (Hand k) (Hand j) rm rb low (ap (λ i. hop (get_or links i no_link).driven) (one_holder links holders j k same))

  still_left : (m b : Move) → Rises m → Rises b → Lower b m → SourceKept m b × StillLeft m b
  still_left (More k) (More j) rm rb low = (refl, more_left k j _ (λ is. ends_apart (More k) (More j) rm rb low (wire_sum j k is)))
  still_left (More k) (Less j) rm rb low = (refl, less_left k j _ (λ is. ends_apart (More k) (Less j) rm rb low (omega (arith, wire_sum j k is))))
  still_left (More k) (Hand j) rm rb low = (refl, refl)
  still_left (Less k) (More j) rm rb low = (refl, more_left k j _ (λ is. ends_apart (Less k) (More j) rm rb low (omega (arith, wire_sum j k is))))
  still_left (Less k) (Less j) rm rb low = (refl, less_left k j _ (λ is. ends_apart (Less k) (Less j) rm rb low (omega (arith, wire_sum j k is))))
  still_left (Less k) (Hand j) rm rb low = (refl, refl)
  still_left (Hand k) (More j) rm rb low = (refl, refl)
  still_left (Hand k) (Less j) rm rb low = (refl, refl)
  still_left (Hand k) (Hand j) rm rb low =
      let same = holder_else links holders k j (share_apart j k rm rb low) in
      (ap (λ i. (get_or links i no_link).driven) same, ap (λ i. eqb (get_or depths j 0) (get_or depths i 0)) same)

module _ (way : Way) (gates : ℕ) (links : List Link) (depths holders row marks hops : List ℕ) (v a : ℕ) (last : LastArc (leftover way gates links depths holders row) marks hops v a) where
  last_kept : (u b : ℕ) → LastArc (leftover way gates links depths holders row) marks hops u b → get_or hops u 0 < get_or hops v 0 →
      LastArc (leftover way gates links depths (holders_after links (numbered (length links) a) holders) (flows_after (numbered (length links) a) row)) marks hops u b
  last_kept u b arc low =
      let m = numbered (length links) a in
      let n = numbered (length links) b in
      let hop = λ (g : ℕ). get_or hops g 0 in
      let kept = still_left way links depths holders row hop m n (ap hop last.enters ∙ last.lower) (ap hop arc.enters ∙ arc.lower) (omega (arith, ap hop last.enters, ap hop arc.enters)) in
      let from = from_kept way links holders (holders_after links m holders) n kept.0 in
      record {
        is_arc = arc.is_arc;
        opened = kept.1 ∙ arc.opened;
        enters = to_kept way links holders (holders_after links m holders) n kept.0 ∙ arc.enters;
        inside = omega (arith, from, arc.inside);
        marked = ap (λ g. get_or marks g 0) from ∙ arc.marked;
        lower = arc.lower ∙ ap (λ g. get_or hops g 0 + 1) (sym from);
      }

  pub hops_kept : HopsTo (get_or hops v 0) (leftover way gates links depths holders row) marks hops → (holders' row' : List ℕ) → holders' ≡ holders_after links (numbered (length links) a) holders → row' ≡ flows_after (numbered (length links) a) row →
      HopsTo (get_or hops (arc_from way links holders (numbered (length links) a)) 0) (leftover way gates links depths holders' row') marks hops
  hops_kept given holders' row' shares_are flows_are u hu mark low = elim (given u hu mark (omega (arith, last.lower))) [
    | inl start ↦ inl start
    | inr (b, arc) ↦ inr (
      b,
      subst (λ (hs : List ℕ). LastArc (leftover way gates links depths hs row') marks hops u b) (sym shares_are)
          (subst (λ (fs : List ℕ). LastArc (leftover way gates links depths (holders_after links (numbered (length links) a) holders) fs) marks hops u b) (sym flows_are) (last_kept u b arc (omega (arith, last.lower)))),
    )
  ]
