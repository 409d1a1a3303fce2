use Rattle.std.proofs.Common.{◌∙◌}
use Rattle.netlist.proofs.Published.{share_all_is}
use Rattle.netlist.proofs.registers.shared_tally.Goals as goal

pub returns : goal.returns
returns g c = c.tally.ensures ∙ share_all_is (g.N.Netlist.meaning c.args.net.now)
