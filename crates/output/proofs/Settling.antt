-- A list that begins with the wires of a netlist opens as the netlist, where a pin number tells its pins.
use Rattle.std.proofs.Common.{◌≡◌, ℕ, ◌-◌, ◌≤◌, ltb, List, ◌++◌, length, get_or, take, drop, sym, ap, ◌∙◌, ⊎_elim, arith, length-append}
use Rattle.std.proofs.lemmas.List.{get_or-take, length-take-le, get_or_append_left, get_or-append_right, get_or-drop}
use Rattle.std.proofs.lemmas.Bool.{cases_lt, le-ltb}
use Rattle.netlist.specs.Net.{Net}
use Rattle.wiring.specs.declared.wire.Wire.{Wire}
use Rattle.wiring.specs.Held.{HoldsWires}
use Rattle.wiring.specs.Wires.{no_wire}
use Rattle.wiring.proofs.Holding.{Sound, held_is, held_passes}
use Rattle.output.specs.Records.{PinnedBelow, Lists, Settled}

module _ (n : Net) (sound : Sound n) where
  pub pinned_is : (pins : ℕ) → PinnedBelow n pins → (g : ℕ) → ltb g pins ≡ n.pinned g
  pinned_is pins first g = ⊎_elim (λ l. sym (first.1 g l)) (λ past. le-ltb g pins (omega (arith, first.0)) ∙ sym (sound.past_gates g past)) (cases_lt g n.gates)

  pub front_lists : (ws : List Wire) → n.wires ≤ length ws → HoldsWires n ws → (pins : ℕ) → PinnedBelow n pins → Lists n pins (take n.wires ws)
  front_lists ws room held pins first =
      let front = take n.wires ws in
      let long : length front ≡ n.wires = length-take-le n.wires ws room in
      let held_front : HoldsWires n front = λ k l. get_or-take n.wires ws k no_wire l ∙ held k l in
      record {
        passes = held_passes n sound front long held_front pins first.0;
        same = held_is n sound front long held_front (λ g. ltb g pins) (pinned_is pins first);
      }

  -- a list whose front is exchanged for the wires
  pub front_settled : (front before : List Wire) (wires : ℕ) → wires ≡ n.wires → length front ≡ n.wires → n.wires ≤ length before → HoldsWires n front → Settled n before (front ++ drop wires before) wires
  front_settled front before wires all long room held =
      let rest = drop wires before in
      let written : HoldsWires n (front ++ rest) = λ k l. get_or_append_left front rest no_wire k (omega arith) ∙ held k l in
      record {
        size_is = all;
        room = room;
        written = written;
        kept = λ k past. get_or-append_right front rest n.wires k no_wire long past ∙ get_or-drop wires before (k - n.wires) no_wire ∙ ap (λ i. get_or before i no_wire) (omega arith);
        opens = front_lists (front ++ rest) (simp length-append (omega arith)) written;
      }
