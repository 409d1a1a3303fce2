-- The moves of one unit of surplus over a wire, by number.
use Rattle.std.specs.Prelude.{ℕ, ◌-◌, ◌*◌, cond, nat_lt}
use Rattle.engine.specs.declared.moves.Move.{Move}
use Rattle.engine.specs.declared.moves.Move.TheVariants.{More, Less, Hand}

-- with so many wires, the move that goes by the number a
abbrev pub numbered : ℕ → ℕ → Move
numbered wires a = cond (nat_lt a wires) (More a) (cond (nat_lt a (2 * wires)) (Less (a - wires)) (Hand (a - 2 * wires)))

abbrev pub wire_of : Move → ℕ
wire_of (More k) = k
wire_of (Less k) = k
wire_of (Hand k) = k
