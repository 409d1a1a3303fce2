use Rattle.wiring.proofs.Leading.{leads_answer}
use Rattle.wiring.specs.Wiring.{wires_graph}
use Rattle.wiring.proofs.lent.Wires.leads.Goals as goal

pub returns : goal.returns
returns c =
    let wires = c.args.self.now in
    leads_answer (wires_graph wires) 1024 c.args.from c.requires.from_within wires.few c.search.new.marks c.args.to c.requires.to_within c.search.result c.search.ensures
