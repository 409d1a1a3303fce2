use Rattle.std.proofs.Common.{ℕ, ◌+◌, ◌*◌, ◌≤◌, length, sym, subst, arith, rules}
use Rattle.wiring.proofs.Lawful.{sound_of}
use Rattle.output.specs.Written.{Written}
use Rattle.output.proofs.Fronts.{front_written}
use Rattle.output.proofs.file.write.Goals as goal

pub returns : goal.returns
returns g c =
    let net = c.args.net.now in
    let n = g.N.Netlist.meaning net in
    let sound = sound_of g.met.N.Netlist net in
    let before = c.args.bytes.now in
    let after = c.put_wires.new.bytes in
    let room : 6 + 6 * n.wires ≤ length before = omega (arith, c.wire_count.ensures, c.if-bytes-size.false) in
    let room_after : 6 + 6 * n.wires ≤ length after = search rules in
    let sized = c.put_sizes.ensures in
    let written = front_written n sound c.in_ok-pins.pins c.in_ok-pins.ensures c.put_sizes.new.bytes after room_after sized.sizes c.put_wires.ensures c.in_default.ensures before room sized.kept in
    subst (λ (w : ℕ). Written n before after (6 + 6 * w)) (sym c.wire_count.ensures) written
