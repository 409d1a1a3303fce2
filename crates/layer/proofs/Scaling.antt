-- A netlist with its counts times a factor: it keeps the laws, and its paths carry so many times as many registers.
use Rattle.std.proofs.Common.{◌≡◌, ℕ, ◌+◌, ◌*◌, ◌≤◌, eqb, List, [], ◌∷◌, sym, ap, ◌∙◌, subst, inl, inr, ⊎_elim, mul-le-mul_right, one-mul, mul-zero, mul-add, arith}
use Rattle.std.proofs.lemmas.Bool.{cases_lt, cases_eq, eq-eqb, ne_eqb}
use Rattle.graph.specs.Reach.{Leads}
use Rattle.netlist.specs.Net.{Net, graph_of, OnFreeRound}
use Rattle.netlist.specs.Path.{Path, stay, go, carried}
use Rattle.wiring.proofs.Holding.{Sound}
use Rattle.layer.specs.Times.{times, Passes, Carries}

-- a product with a factor of at least 1
positive : (f c : ℕ) → 1 ≤ f → c ≤ f * c
positive f c some = omega (arith, one-mul c, mul-le-mul_right c some)

empty_same : (f c : ℕ) → 1 ≤ f → eqb (f * c) 0 ≡ eqb c 0
empty_same f c some = elim (cases_eq c 0) [
  | inl e ↦ eq-eqb (f * c) 0 (ap (λ x. f * x) e ∙ mul-zero f) ∙ sym (eq-eqb c 0 e)
  | inr ne ↦ ne_eqb (f * c) 0 (λ e. ne (omega (arith, positive f c some))) ∙ sym (ne_eqb c 0 ne)
]

module _ (n : Net) (f : ℕ) (pass : Passes f n) where
  graph_same : graph_of (times f n) ≡ graph_of n
  graph_same = λ i. record { nodes = n.gates; arcs = n.wires; from = n.driver; to = n.driven; opens = λ k. empty_same f (n.count k) pass.range.0 i }

  round_below : (k : ℕ) → OnFreeRound (times f n) k → OnFreeRound n k
  round_below k r = record {
    is_wire = r.is_wire;
    empty = omega (arith, positive f (n.count k) pass.range.0, r.empty);
    back = subst (λ d. Leads d (n.driven k) (n.driver k)) graph_same r.back;
  }

  pub sound_times : Sound n → Sound (times f n)
  sound_times sound = record {
    few_gates = sound.few_gates;
    few_wires = sound.few_wires;
    drivers = sound.drivers;
    drivens = sound.drivens;
    counts = λ k. ⊎_elim (λ l. ⊎_elim (λ over. absurd (pass.counts k l over)) (λ h. h) (cases_lt 1048575 (f * n.count k))) (λ past. omega (arith, none k past)) (cases_lt k n.wires);
    rounds = λ k r. sound.rounds k (round_below k r);
    past_wires = λ k past. let p = sound.past_wires k past in (p.0, p.1, none k past);
    past_gates = sound.past_gates;
  }
    where
      none : (k : ℕ) → n.wires ≤ k → f * n.count k ≡ 0
      none k past = ap (λ x. f * x) (sound.past_wires k past).2 ∙ mul-zero f

module _ (n : Net) (f : ℕ) where
  path_times : {u v : ℕ} {ks : List ℕ} → Path n u ks v → Path (times f n) u ks v
  path_times stay = stay
  path_times (go k l from rest) = go k l from (path_times rest)

  carried_times : (ks : List ℕ) → carried (times f n) ks ≡ f * carried n ks
  carried_times [] = sym (mul-zero f)
  carried_times (k ∷ ks) = ap (λ x. f * n.count k + x) (carried_times ks) ∙ sym (mul-add f (n.count k) (carried n ks))

  pub carries_times : (m : Net) → m ≡ times f n → Carries f n m
  carries_times m e = subst (Carries f n) (sym e) (λ u v ks p. (path_times p, carried_times ks))

pub times_one : (n : Net) → times 1 n ≡ n
times_one n = λ i. record { gates = n.gates; pinned = n.pinned; wires = n.wires; driver = n.driver; driven = n.driven; count = λ k. one-mul (n.count k) i }
