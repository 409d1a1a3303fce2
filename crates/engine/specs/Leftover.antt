-- The leftover graph: its nodes are the gates, and each of its arcs is a move of one unit of surplus, open where the rows leave the move.
use Rattle.std.specs.Prelude.{ℕ, ◌*◌, Bool, ◌&&◌, List, length, ◌==◌, nat_lt, slice_index, slice_index_or}
use Rattle.graph.specs.Digraph.{Digraph}
use Rattle.retiming.specs.declared.way.Way.{Way}
use Rattle.retiming.specs.declared.way.Way.TheVariants.{Forward, Back}
use Rattle.engine.specs.declared.link.Link.{Link}
use Rattle.engine.specs.declared.moves.Move.{Move}
use Rattle.engine.specs.declared.moves.Move.TheVariants.{More, Less, Hand}
use Rattle.engine.specs.Moves.{numbered}
use Rattle.engine.specs.Rows.{holder, flows}
use Rattle.engine.specs.Table.{no_link}

-- the gate that a move takes its unit from
abbrev pub source : List Link → List ℕ → Move → ℕ
source links holders (More k) = (slice_index_or links k no_link).driven
source links holders (Less k) = (slice_index_or links k no_link).driver
source links holders (Hand k) = (slice_index_or links (holder links holders k) no_link).driven

-- the gate that it brings the unit to
abbrev pub sink : List Link → Move → ℕ
sink links (More k) = (slice_index_or links k no_link).driver
sink links (Less k) = (slice_index_or links k no_link).driven
sink links (Hand k) = (slice_index_or links k no_link).driven

-- more flow runs where the wire carries no register, up to 4,096; less where some runs; a share goes to a wire as deep as its holder
abbrev pub possible : List Link → List ℕ → List ℕ → List ℕ → Move → Bool
possible links depths holders row (More k) = slice_index depths k == 0 && nat_lt (flows row k) 4096
possible links depths holders row (Less k) = nat_lt 0 (flows row k)
possible links depths holders row (Hand k) = slice_index depths k == slice_index depths (holder links holders k)

-- forward follows the moves, back goes against them
abbrev pub arc_from : Way → List Link → List ℕ → Move → ℕ
arc_from Forward links holders m = source links holders m
arc_from Back links holders m = sink links m

abbrev pub arc_to : Way → List Link → List ℕ → Move → ℕ
arc_to Forward links holders m = sink links m
arc_to Back links holders m = source links holders m

abbrev pub leftover : Way → ℕ → List Link → List ℕ → List ℕ → List ℕ → Digraph
leftover way gates links depths holders row = record {
  nodes = gates;
  arcs = 3 * length links;
  from = λ a. arc_from way links holders (numbered (length links) a);
  to = λ a. arc_to way links holders (numbered (length links) a);
  opens = λ a. possible links depths holders row (numbered (length links) a);
}
