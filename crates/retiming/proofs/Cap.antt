-- A set that a way pushes has less flow on each wire into it than there are wires: a cap on flows at the number of wires never holds a set together.
use Rattle.std.proofs.Common.{◌≡◌, ℕ, ◌+◌, ◌*◌, ◌<◌, ◌≤◌, Bool, true, false, cond, not, sym, ◌∙◌, inl, inr, mul-add, arith}
use Rattle.std.proofs.lemmas.Bool.{cases_Bool, cases_eq}
use Rattle.graph.specs.Sums.{total}
use Rattle.graph.proofs.Totals.{total_same, total_bits_le}
use Rattle.netlist.specs.Net.{Net}
use Rattle.retiming.specs.declared.way.Way.{Way}
use Rattle.retiming.specs.declared.way.Way.TheVariants.{Forward, Back}
use Rattle.retiming.specs.Witness.{into, out_of, gain, cost}
use Rattle.retiming.specs.Tied.{Spent, opposite}
use Rattle.retiming.proofs.Sums.{total_add, total_gap, total_swap}
use Rattle.retiming.proofs.Cut.{Seeds}
use Rattle.retiming.proofs.Sets.{side}

-- 1 at the gates of a set, 0 at the others
abbrev pub one_on : (ℕ → Bool) → ℕ → ℕ
one_on inside g = cond (inside g) 1 0

less_over : (p : ℕ → Bool) (f h : ℕ → ℕ) (n : ℕ) → ((g : ℕ) → g < n → p g ≡ true → f g ≤ h g) → (s : ℕ) → s < n → p s ≡ true → f s < h s → total (λ g. one_on p g * f g) n < total (λ g. one_on p g * h g) n
less_over p f h n le s within holds lt =
    omega (
      arith,
      total_gap (λ g. one_on p g * f g) (λ g. one_on p g * h g) n s 1
          (λ g l. elim (cases_Bool (p g)) [ inl in_set ↦ rw in_set (omega (arith, le g l in_set)) | inr out ↦ rw out (omega arith) ])
          within (rw holds (omega arith)),
    )

halves : (p : ℕ → Bool) (f : ℕ → ℕ) (n : ℕ) → total (λ g. one_on (λ x. not (p x)) g * f g) n + total (λ g. one_on p g * f g) n ≡ total f n
halves p f n = sym (total_add (λ g. one_on (λ x. not (p x)) g * f g) (λ g. one_on p g * f g) n) ∙ total_same _ f n (λ g _. elim (cases_Bool (p g)) [ inl in_set ↦ rw in_set (omega arith) | inr out ↦ rw out (omega arith) ])

module _ (n : Net) (drivers : (k : ℕ) → k < n.wires → n.driver k < n.gates) (drivens : (k : ℕ) → k < n.wires → n.driven k < n.gates) (share flow : ℕ → ℕ) where
  weigh : (w : ℕ → ℕ) → (total (λ g. w g * gain n share flow g) n.gates ≡ total (λ k. share k * w (n.driven k)) n.wires + total (λ k. flow k * w (n.driver k)) n.wires) × (total (λ g. w g * cost n share flow g) n.gates ≡ total (λ k. share k * w (n.driver k)) n.wires + total (λ k. flow k * w (n.driven k)) n.wires)
  weigh w =
      let split = λ (f h : ℕ → ℕ). total_same (λ g. w g * (f g + h g)) (λ g. w g * f g + w g * h g) n.gates (λ g _. mul-add (w g) (f g) (h g)) ∙ total_add (λ g. w g * f g) (λ g. w g * h g) n.gates in (
        omega (arith, split (into n share) (out_of n flow), total_swap n.gates n.driven share w n.wires drivens, total_swap n.gates n.driver flow w n.wires drivers),
        omega (arith, split (out_of n share) (into n flow), total_swap n.gates n.driver share w n.wires drivers, total_swap n.gates n.driven flow w n.wires drivens),
      )

  -- all gates together gain what they cost
  all_even : total (gain n share flow) n.gates ≡ total (cost n share flow) n.gates
  all_even =
      let ones = weigh (λ _. 1) in
      let plain = λ (f : ℕ → ℕ). total_same (λ g. 1 * f g) f n.gates (λ g _. omega arith) in
      omega (arith, ones, plain (gain n share flow), plain (cost n share flow))

  module _ (bits : (k : ℕ) → k < n.wires → share k ≤ 1) (beyond : ℕ → Bool)
      (gains : total (λ g. one_on beyond g * cost n share flow g) n.gates < total (λ g. one_on beyond g * gain n share flow g) n.gates)
      (flows : (k : ℕ) → k < n.wires → 0 < flow k → beyond (n.driver k) ≡ true → beyond (n.driven k) ≡ true) where
    entering_small : (k : ℕ) → k < n.wires → beyond (n.driven k) ≡ true → beyond (n.driver k) ≡ false → flow k < n.wires
    entering_small k h holds out =
        let gap = total_gap (λ i. flow i * one_on beyond (n.driver i)) (λ i. flow i * one_on beyond (n.driven i)) n.wires k (flow k) kept h (rw (holds, out) (omega arith)) in
        let few = total_bits_le (λ i. share i * one_on beyond (n.driven i)) n.wires light in
        omega (arith, gains, gap, few, weigh (one_on beyond))
      where
        kept : (i : ℕ) → i < n.wires → flow i * one_on beyond (n.driver i) ≤ flow i * one_on beyond (n.driven i)
        kept i l = elim (cases_Bool (beyond (n.driver i))) [
          | inl from ↦ elim (cases_eq (flow i) 0) [ inl none ↦ rw none (omega arith) | inr some ↦ rw (from, flows i l (omega arith) from) (omega arith) ]
          | inr away ↦ rw away (omega arith)
        ]

        light : (i : ℕ) → i < n.wires → share i * one_on beyond (n.driven i) ≤ 1
        light i l = elim (cases_Bool (beyond (n.driven i))) [ inl to ↦ rw to (omega (arith, bits i l)) | inr away ↦ rw away (omega arith) ]

  module _ (way : Way) (inside : ℕ → Bool) (willing : (g : ℕ) → g < n.gates → inside g ≡ true → Spent (opposite way) (gain n share flow g) (cost n share flow g)) (s : ℕ) (here : inside s ≡ true) (start : Seeds way n share flow s) where
    side_gains : total (λ g. one_on (side way inside) g * cost n share flow g) n.gates < total (λ g. one_on (side way inside) g * gain n share flow g) n.gates
    side_gains = go way willing start
      where
        go : (w : Way) → ((g : ℕ) → g < n.gates → inside g ≡ true → Spent (opposite w) (gain n share flow g) (cost n share flow g)) → Seeds w n share flow s → total (λ g. one_on (side w inside) g * cost n share flow g) n.gates < total (λ g. one_on (side w inside) g * gain n share flow g) n.gates
        go Forward le lt = less_over inside (cost n share flow) (gain n share flow) n.gates le s lt.0 here lt.1
        go Back le lt = omega (arith, less_over inside (gain n share flow) (cost n share flow) n.gates le s lt.0 here lt.1, halves inside (gain n share flow) n.gates, halves inside (cost n share flow) n.gates, all_even)

    -- a wire without slack into the set, kept out by a cap of at least the number of wires, would have a flow below it
    pub flow_below : ((k : ℕ) → k < n.wires → share k ≤ 1) → ((k : ℕ) → k < n.wires → 0 < flow k → side way inside (n.driver k) ≡ true → side way inside (n.driven k) ≡ true) →
        (k : ℕ) → k < n.wires → side way inside (n.driven k) ≡ true → side way inside (n.driver k) ≡ false → flow k < n.wires
    flow_below bits flows = entering_small bits (side way inside) side_gains flows
