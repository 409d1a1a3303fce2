-- The walk that carries a unit: one step of it, and what it keeps at each gate.
use Rattle.std.proofs.Common.{◌≡◌, ℕ, ◌<◌, List, length, get_or, sym, subst, arith}
use Rattle.retiming.specs.declared.way.Way.{Way}
use Rattle.engine.specs.declared.link.Link.{Link}
use Rattle.engine.specs.Carried.{Carried, flows_after, holders_after}
use Rattle.engine.specs.Hops.{LastArc, HopsTo}
use Rattle.engine.specs.Leftover.{leftover, arc_from, arc_to}
use Rattle.engine.specs.Moves.{numbered}
use Rattle.engine.specs.Stepped.{Stepped}
use Rattle.engine.proofs.Stepping.{hops_kept}

-- the unit came over the last arc into the gate
pub step_made : (way : Way) (gates : ℕ) (links : List Link) (depths marks hops : List ℕ) (v a u : ℕ) (holders row holders' row' : List ℕ) →
    LastArc (leftover way gates links depths holders row) marks hops v a → u ≡ arc_from way links holders (numbered (length links) a) →
    HopsTo (get_or hops v 0) (leftover way gates links depths holders row) marks hops →
    holders' ≡ holders_after links (numbered (length links) a) holders → row' ≡ flows_after (numbered (length links) a) row →
    Carried way gates links holders row holders' row' (arc_from way links holders (numbered (length links) a)) (arc_to way links holders (numbered (length links) a)) →
    Stepped way gates links depths marks hops v u holders row holders' row'
step_made way gates links depths marks hops v a u holders row holders' row' last from stands shares_are flows_are carried =
    subst (λ (x : ℕ). Stepped way gates links depths marks hops v x holders row holders' row') (sym from) (record {
      inside = last.inside;
      marked = last.marked;
      lower = last.lower;
      carried = subst (λ (y : ℕ). Carried way gates links holders row holders' row' (arc_from way links holders (numbered (length links) a)) y) last.enters carried;
      hopped = hops_kept way gates links depths holders row marks hops v a last stands holders' row' shares_are flows_are;
    })

-- at gate v a unit has been carried from there to the target
pub record Walking (way : Way) (gates : ℕ) (links : List Link) (depths marks hops : List ℕ) (target : ℕ) (holders row : List ℕ) (v : ℕ) (holders' row' : List ℕ) : Type 0 where
  pub inside : v < gates
  pub marked : get_or marks v 0 ≡ 1
  pub carried : Carried way gates links holders row holders' row' v target
  pub stands : HopsTo (get_or hops v 0) (leftover way gates links depths holders' row') marks hops

-- one step more
pub walked : (way : Way) (gates : ℕ) (links : List Link) (depths marks hops : List ℕ) (target : ℕ) (first_holders first_row : List ℕ) (v u : ℕ) (holders row holders' row' : List ℕ) →
    Walking way gates links depths marks hops target first_holders first_row v holders row → Stepped way gates links depths marks hops v u holders row holders' row' → Walking way gates links depths marks hops target first_holders first_row u holders' row'
walked way gates links depths marks hops target first_holders first_row v u holders row holders' row' so_far step = record {
  inside = step.inside;
  marked = step.marked;
  carried = record { moved = λ g h. omega (arith, step.carried.moved g h, so_far.carried.moved g h) };
  stands = step.hopped;
}
