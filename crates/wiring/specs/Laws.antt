-- A netlist in memory meets the laws of netlists.
use Rattle.std.proofs.Common.{◌≡◌, ℕ, ◌<◌, ◌≤◌, false, length, ap, ⊎_elim, arith}
use Rattle.std.proofs.lemmas.List.{get_or_past}
use Rattle.std.proofs.lemmas.Bool.{cases_lt}
use Rattle.netlist.specs.Net.{OnFreeRound}
use Rattle.wiring.specs.declared.owned.Wiring.{Wiring}
use Rattle.wiring.specs.Wires.{no_wire}
use Rattle.wiring.specs.Wiring.{wiring_net}

pub few_gates_hold : (w : Wiring) → (wiring_net w).gates ≤ 1024
few_gates_hold w = w.gates

pub few_wires_hold : (w : Wiring) → (wiring_net w).wires ≤ 4096
few_wires_hold w = omega (arith, w.few, w.wires.ok.0)

pub drivers_within : (w : Wiring) (k : ℕ) → k < (wiring_net w).wires → (wiring_net w).driver k < (wiring_net w).gates
drivers_within w k is_wire = (w.within k is_wire).0

pub drivens_within : (w : Wiring) (k : ℕ) → k < (wiring_net w).wires → (wiring_net w).driven k < (wiring_net w).gates
drivens_within w k is_wire = (w.within k is_wire).1

pub counts_within : (w : Wiring) (k : ℕ) → (wiring_net w).count k ≤ 1048575
counts_within w k =
    ⊎_elim (w.small k) (λ past. let none = ap (λ x. x.count) (get_or_past w.wires.items k no_wire past) in omega (arith, none)) (cases_lt k (length w.wires.items))

pub no_free_round : (w : Wiring) (k : ℕ) → OnFreeRound (wiring_net w) k → ⊥
no_free_round w k round = w.rounds k (record { is_wire = round.is_wire; empty = round.empty; back = round.back })

pub none_past_wires : (w : Wiring) (k : ℕ) → (wiring_net w).wires ≤ k → ((wiring_net w).driver k ≡ 0) × ((wiring_net w).driven k ≡ 0) × ((wiring_net w).count k ≡ 0)
none_past_wires w k past =
    let none = get_or_past w.wires.items k no_wire past in
    (ap (λ x. x.driver) none, ap (λ x. x.driven) none, ap (λ x. x.count) none)

pub none_past_gates : (w : Wiring) (g : ℕ) → (wiring_net w).gates ≤ g → (wiring_net w).pinned g ≡ false
none_past_gates w g past = get_or_past w.pins.items g false (omega (arith, w.pins.ok.0))
