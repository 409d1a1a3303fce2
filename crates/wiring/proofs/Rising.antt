-- Where levels rise along each wire without a register, no round consists of such wires.
use Rattle.std.proofs.Common.{ℕ, ◌≤◌, false, List, get_or, ap, arith}
use Rattle.std.proofs.lemmas.Bool.{eqb-true}
use Rattle.graph.specs.Reach.{Reached, Leads}
use Rattle.netlist.specs.Net.{graph_of}
use Rattle.wiring.specs.declared.wire.Wire.{Wire}
use Rattle.wiring.specs.Levels.{Rises}
use Rattle.wiring.specs.Wires.{wired, NoFreeRound}

module _ (gates : ℕ) (ws : List Wire) (levels : List ℕ) (rises : Rises ws levels) where
  no_fall : (u v : ℕ) → Leads (graph_of (wired gates (λ _. false) ws)) u v → get_or levels u 0 ≤ get_or levels v 0
  no_fall u v (Reached.begin e) = omega (arith, ap (λ g. get_or levels g 0) e)
  no_fall u v (Reached.along a is_wire is_open enters r) =
      omega (arith, no_fall u _ r, rises a is_wire (eqb-true _ _ is_open), ap (λ g. get_or levels g 0) enters)

  pub no_round : NoFreeRound gates ws
  no_round k r = omega (arith, rises k r.is_wire r.empty, no_fall _ _ r.back)
