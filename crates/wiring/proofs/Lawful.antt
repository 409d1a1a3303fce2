-- What the laws say of each netlist, at any type that answers the questions of one.
use Rattle.netlist.specs.contracts.ask.Netlist.TheBound.{Met}
use Rattle.wiring.proofs.Holding.{Sound}

-- an answer has the laws as g.met.N.Netlist
pub sound_of : {M : _} {U : _} {L : _} {H : _} {R : _} {E : _} {row : _} {n : _} {nd : _} {d : _} {dd : _} → Met {M = M} {𝓤 = U} L H R E row n nd d dd → (x : row.Denot) → Sound (n.meaning x)
sound_of laws x = record {
  few_gates = laws.few_gates x;
  few_wires = laws.few_wires x;
  drivers = laws.drivers x;
  drivens = laws.drivens x;
  counts = laws.counts x;
  rounds = laws.rounds x;
  past_wires = laws.past_wires x;
  past_gates = laws.past_gates x;
}
