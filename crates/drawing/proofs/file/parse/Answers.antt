use Rattle.std.proofs.lemmas.Result.{err_from_is_err_and}
use Rattle.drawing.proofs.Drawn.{read_is, accepts, refuses}
use Rattle.drawing.proofs.file.parse.Goals as goal

pub returns-in_err-check_up_to : goal.returns-in_err-check_up_to
returns-in_err-check_up_to c =
    let p = err_from_is_err_and c.from_residual-in_err-check_up_to.result c.from_residual-in_err-check_up_to.ensures.1 in
    let b = c.args.bytes.now in
    let of = c.in_ok-sizes.ensures in
    let ws = c.read_wires-wires.result.items in
    let drawn_so = read_is b _ _ _ _ _ _ ws of c.split_at.ensures.front c.split_at.ensures.back c.as_chunks.ensures.front c.as_chunks-2.ensures.front c.as_chunks.ensures.front_len c.as_chunks-2.ensures.front_len c.read_wires-wires.ensures.long c.read_wires-wires.ensures.each in
    rw (p.1, p.2) (refuses b _ _ ws of.0.sized of.0.pins_are drawn_so _ c.as_slice.ensures.value _ c.in_err-check_up_to.ensures)

pub returns : goal.returns
returns c =
    let b = c.args.bytes.now in
    let of = c.in_ok-sizes.ensures in
    let ws = c.read_wires-wires.result.items in
    let drawn_so = read_is b _ _ _ _ _ _ ws of c.split_at.ensures.front c.split_at.ensures.back c.as_chunks.ensures.front c.as_chunks-2.ensures.front c.as_chunks.ensures.front_len c.as_chunks-2.ensures.front_len c.read_wires-wires.ensures.long c.read_wires-wires.ensures.each in
    record { accepted = accepts b _ _ ws of.0.sized of.0.pins_are drawn_so _ c.as_slice.ensures.value c.in_ok-check_up_to.ensures; pins_are = of.0.pins_are; netlist_is = drawn_so }
