use Rattle.std.proofs.Common.{◌≡◌, ◌≤◌, length, arith, rules}
use Rattle.wiring.proofs.Lawful.{sound_of}
use Rattle.output.proofs.Settling.{front_settled}
use Rattle.output.proofs.records.settle.Goals as goal

pub returns : goal.returns
returns g c =
    let net = c.args.net.now in
    let n = g.N.Netlist.meaning net in
    let before = c.args.list.now in
    let front = c.put_wires.new.list in
    let room : n.wires ≤ length before = omega (arith, c.wire_count-wires.ensures) in
    let long : length front ≡ n.wires = search rules in
    front_settled n (sound_of g.met.N.Netlist net) front before c.wire_count-wires.result c.wire_count-wires.ensures long room c.put_wires.ensures
