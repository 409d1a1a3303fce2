-- One unit of surplus carried from gate to gate: the rows after a move, and what gates gain and cost then.
use Rattle.std.specs.Prelude.{◌≡◌, ℕ, ◌+◌, ◌-◌, ◌<◌, List, slice_index, slice_index_or, slice_set}
use Rattle.retiming.specs.declared.way.Way.{Way}
use Rattle.retiming.specs.Witness.{gain, cost}
use Rattle.retiming.proofs.Falls.{won, lost}
use Rattle.retiming.proofs.Units.{unit_at}
use Rattle.engine.specs.declared.link.Link.{Link}
use Rattle.engine.specs.declared.moves.Move.{Move}
use Rattle.engine.specs.declared.moves.Move.TheVariants.{More, Less, Hand}
use Rattle.engine.specs.Rows.{shares, flows}
use Rattle.engine.specs.Table.{no_link, table}

abbrev pub flows_after : Move → List ℕ → List ℕ
flows_after (More k) row = slice_set row k (slice_index row k + 1)
flows_after (Less k) row = slice_set row k (slice_index row k - 1)
flows_after (Hand k) row = row

abbrev pub holders_after : List Link → Move → List ℕ → List ℕ
holders_after links (More k) holders = holders
holders_after links (Less k) holders = holders
holders_after links (Hand k) holders = slice_set holders (slice_index_or links k no_link).bundle k

-- from the rows before to those after, one unit of what the way moves has left gate x and come to gate y
pub record Carried (way : Way) (gates : ℕ) (links : List Link) (holders row holders' row' : List ℕ) (x y : ℕ) : Type 0 where
  pub moved : (g : ℕ) → g < gates →
      won way (gain (table gates links) (shares links holders') (flows row') g) (cost (table gates links) (shares links holders') (flows row') g) +
      lost way (gain (table gates links) (shares links holders) (flows row) g) (cost (table gates links) (shares links holders) (flows row) g) + unit_at x g ≡
      won way (gain (table gates links) (shares links holders) (flows row) g) (cost (table gates links) (shares links holders) (flows row) g) +
      lost way (gain (table gates links) (shares links holders') (flows row') g) (cost (table gates links) (shares links holders') (flows row') g) + unit_at y g
