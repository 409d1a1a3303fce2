-- What opens from the pins and the wires of a netlist, as they stand in memory, is that netlist.
use Rattle.std.proofs.Common.{◌≡◌, ℕ, Bool, false, List, length, get_or, sym, ◌∙◌, subst, ⊎_elim, arith}
use Rattle.std.proofs.lemmas.List.{get_or_past}
use Rattle.std.proofs.lemmas.Bool.{cases_lt}
use Rattle.netlist.specs.Net.{Net}
use Rattle.wiring.specs.declared.wire.Wire.{Wire}
use Rattle.wiring.specs.List.{OpensPinned}
use Rattle.wiring.proofs.Holding.{Sound, held_is, held_passes}
use Rattle.layer.specs.Wires.{HasPins, HasWires}

module _ (n : Net) (sound : Sound n) (row : List Bool) (gates : ℕ) (gates_of : gates ≡ length row) (pins : HasPins n gates row) where
  -- a row of pins, read at any gate
  pinned_at : (g : ℕ) → get_or row g false ≡ n.pinned g
  pinned_at g = ⊎_elim (pins.at g) (λ past. get_or_past row g false (omega (arith, pins.size_is)) ∙ sym (sound.past_gates g past)) (cases_lt g n.gates)

  module _ (ws : List Wire) (wires : ℕ) (wires_of : wires ≡ length ws) (has : HasWires n wires ws) where
    pub opened_is : (lent : List Wire) → lent ≡ ws → (m : Net) → OpensPinned gates (λ g. get_or row g false) lent m → m ≡ n
    opened_is lent same m opens =
        let pinned : ℕ → Bool = λ g. get_or row g false in
        let long : length ws ≡ n.wires = sym wires_of ∙ has.size_is in
        let opens_here = subst (λ (size : ℕ). OpensPinned size pinned ws m) pins.size_is (subst (λ list. OpensPinned gates pinned list m) same opens) in
        opens_here.accepted (held_passes n sound ws long has.at 0 (omega arith)) ∙ held_is n sound ws long has.at pinned pinned_at
