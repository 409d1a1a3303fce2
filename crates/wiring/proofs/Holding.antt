-- What the laws say of a netlist, and that a list which holds its wires passes the check of lists and stands for it.
use Rattle.std.proofs.Common.{◌≡◌, ℕ, ◌<◌, ◌≤◌, Bool, false, ltb, List, length, get_or, sym, ◌∙◌, subst, ⊎_elim, arith}
use Rattle.std.proofs.lemmas.List.{get_or_past}
use Rattle.std.proofs.lemmas.Bool.{cases_lt}
use Rattle.netlist.specs.Net.{Net, OnFreeRound}
use Rattle.wiring.specs.declared.wire.Wire.{Wire}
use Rattle.wiring.specs.Check.{NoneBelow, Deep, WiresPass}
use Rattle.wiring.specs.Held.{wire_of, HoldsWires}
use Rattle.wiring.specs.List.{Passes}
use Rattle.wiring.specs.Wires.{no_wire, wired}
use Rattle.wiring.proofs.Keeping.{pass_repinned}

-- what the laws say of each netlist
pub record Sound (n : Net) : Type 0 where
  pub few_gates : n.gates ≤ 1024
  pub few_wires : n.wires ≤ 4096
  pub drivers : (k : ℕ) → k < n.wires → n.driver k < n.gates
  pub drivens : (k : ℕ) → k < n.wires → n.driven k < n.gates
  pub counts : (k : ℕ) → n.count k ≤ 1048575
  pub rounds : (k : ℕ) → OnFreeRound n k → ⊥
  pub past_wires : (k : ℕ) → n.wires ≤ k → (n.driver k ≡ 0) × (n.driven k ≡ 0) × (n.count k ≡ 0)
  pub past_gates : (g : ℕ) → n.gates ≤ g → n.pinned g ≡ false

module _ (n : Net) (sound : Sound n) where
  pub sound_pass : (limit : ℕ) → NoneBelow n.wires (Deep limit n) → WiresPass limit n
  sound_pass limit small = record {
    ends = λ k l. ⊎_elim (λ over. omega (arith, sound.drivers k l)) (λ over. omega (arith, sound.drivens k l));
    counts = small;
    rounds = λ k l. sound.rounds k;
  }

  pub none_past : (k : ℕ) → n.wires ≤ k → no_wire ≡ wire_of n k
  none_past k past = let none = sound.past_wires k past in λ i. record { driver = sym none.0 i; driven = sym none.1 i; count = sym none.2 i }

  module _ (ws : List Wire) (long : length ws ≡ n.wires) (held : HoldsWires n ws) where
    at : (k : ℕ) → get_or ws k no_wire ≡ wire_of n k
    at k = ⊎_elim (held k) (λ past. get_or_past ws k no_wire (omega arith) ∙ none_past k past) (cases_lt k n.wires)

    pub held_is : (pinned : ℕ → Bool) → ((g : ℕ) → pinned g ≡ n.pinned g) → wired n.gates pinned ws ≡ n
    held_is pinned same = λ i. record {
      gates = n.gates;
      pinned = λ g. same g i;
      wires = long i;
      driver = λ k. (at k i).driver;
      driven = λ k. (at k i).driven;
      count = λ k. (at k i).count;
    }

    pub held_passes : (pins : ℕ) → pins ≤ n.gates → Passes 1048575 n.gates pins ws
    held_passes pins few = record {
      sizes = record { gates_fit = sound.few_gates; wires_fit = omega (arith, sound.few_wires); pins_fit = few };
      wires = pass_repinned 1048575 n.gates n.pinned (λ g. ltb g pins) ws (subst (WiresPass 1048575) (sym (held_is n.pinned (λ g i. n.pinned g))) (sound_pass 1048575 (λ k l over. omega (arith, sound.counts k))));
    }
