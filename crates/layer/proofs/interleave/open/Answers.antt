use Rattle.std.proofs.Common.{subst}
use Rattle.std.proofs.lemmas.Result.{IfOk-weaker}
use Rattle.wiring.specs.Wiring.{wiring_net}
use Rattle.wiring.proofs.Lawful.{sound_of}
use Rattle.layer.specs.Times.{times}
use Rattle.layer.specs.Wires.{HasWires}
use Rattle.layer.proofs.Choosing.{shows, shows_paths}
use Rattle.layer.proofs.Opening.{opened_is}
use Rattle.layer.proofs.Scaling.{sound_times}
use Rattle.layer.proofs.interleave.open.Goals as goal

pub returns : goal.returns
returns g c =
    let net = c.args.net.now in
    let meaning = g.N.Netlist.meaning in
    let n = meaning net in
    let shown = c.new-shown.result.factor in
    let chosen = c.new-shown.ensures.factor in
    let row = c.in_ok-pins.pins in
    let pins = c.in_ok-pins.ensures in
    let scaled = c.in_ok-wires.wires in
    let wires = subst (λ m. HasWires (times shown (meaning m)) scaled.len scaled.items) c.new-shown.ensures.net c.in_ok-wires.ensures in
    let is = opened_is (times shown n) (sound_times n shown chosen.passes (sound_of g.met.N.Netlist net)) row.items row.len row.ok.0 (record { size_is = pins.size_is; at = pins.at }) scaled.items scaled.len scaled.ok.0 wires c.as_slice.result.now c.as_slice.ensures.value in
    record {
      shows = IfOk-weaker c.open.result _ _ (λ w opens. shows c.args.factor n shown chosen (wiring_net w) (is (wiring_net w) opens)) c.open.ensures;
      carries = IfOk-weaker c.open.result _ _ (λ w opens. shows_paths c.args.factor n shown chosen (wiring_net w) (is (wiring_net w) opens)) c.open.ensures;
    }
