use Rattle.std.proofs.Common.{◌∙◌}
use Rattle.netlist.proofs.Published.{each_alone_is}
use Rattle.netlist.proofs.registers.alone_tally.Goals as goal

pub returns : goal.returns
returns g c =
    let net = c.args.net.now in
    let laws = g.met.N.Netlist in
    c.tally.ensures ∙ each_alone_is (g.N.Netlist.meaning net) (laws.drivers net) (laws.few_wires net)
