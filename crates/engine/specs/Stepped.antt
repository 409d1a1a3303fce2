-- One step of the walk that carries a unit, back along the last arc into a gate.
use Rattle.std.specs.Prelude.{◌≡◌, ℕ, ◌+◌, ◌<◌, List, slice_index}
use Rattle.retiming.specs.declared.way.Way.{Way}
use Rattle.engine.specs.declared.link.Link.{Link}
use Rattle.engine.specs.Carried.{Carried}
use Rattle.engine.specs.Hops.{HopsTo}
use Rattle.engine.specs.Leftover.{leftover}

-- a unit was carried from gate u to gate v, one hop higher, and the hops up to that of u still stand
pub record Stepped (way : Way) (gates : ℕ) (links : List Link) (depths marks hops : List ℕ) (v u : ℕ) (holders row holders' row' : List ℕ) : Type 0 where
  pub inside : u < gates
  pub marked : slice_index marks u ≡ 1
  pub lower : slice_index hops v ≡ slice_index hops u + 1
  pub carried : Carried way gates links holders row holders' row' u v
  pub hopped : HopsTo (slice_index hops u) (leftover way gates links depths holders' row') marks hops
