-- A share for each bundle: the counts of the wires that have it, added, against the tally.
use Rattle.std.proofs.Common.{◌≡◌, ℕ, ◌*◌, ◌<◌, ◌≤◌, true, false, cond, eqb, ◌⊎◌, sym, refl, ap, ◌∙◌, inl, inr, arith}
use Rattle.std.proofs.lemmas.Bool.{cond-false, and_parts, and_from, eqb-true, eq-eqb}
use Rattle.graph.specs.Sums.{total}
use Rattle.graph.proofs.Totals.{total_same, total_le, total_zero}
use Rattle.netlist.specs.Net.{Net}
use Rattle.netlist.specs.Tally.{Marking, greatest, together}
use Rattle.netlist.proofs.Greatest.{greatest_none}
use Rattle.netlist.proofs.Tallies.{mark_of}
use Rattle.retiming.specs.Witness.{bundled}
use Rattle.retiming.proofs.Sums.{total_cells, total_tight}
use Rattle.retiming.proofs.Deepest.{greatest_ge, greatest_le, some_or_none, weighed_is, weighed_at}

-- the tally of the netlist with the counts c in place of its own
abbrev pub tally_with : ℕ → Net → Marking → (ℕ → ℕ) → ℕ
tally_with bound n mark c = total (λ g. total (λ m. greatest (together n mark g m) c n.wires) bound) n.gates

-- the counts c of the wires with a share, added
abbrev pub shared : Net → (ℕ → ℕ) → (ℕ → ℕ) → ℕ
shared n share c = total (λ k. share k * c k) n.wires

-- the part of that in one bundle
abbrev pub shared_in : Net → Marking → (ℕ → ℕ) → (ℕ → ℕ) → ℕ → ℕ → ℕ
shared_in n mark share c g m = total (λ k. cond (together n mark g m k) (share k * c k) 0) n.wires

module _ (bound : ℕ) (n : Net) (mark : Marking) (share : ℕ → ℕ)
    (drivers : (k : ℕ) → k < n.wires → n.driver k < n.gates)
    (marks : (k : ℕ) → k < n.wires → mark_of n mark k < bound)
    (bits : (k : ℕ) → k < n.wires → share k ≤ 1)
    (single : (k : ℕ) → k < n.wires → total (λ j. cond (bundled n mark k j) (share j) 0) n.wires ≡ 1) where
  by_bundle : (c : ℕ → ℕ) → shared n share c ≡ total (λ g. total (λ m. shared_in n mark share c g m) bound) n.gates
  by_bundle c = total_cells n.gates bound n.driver (mark_of n mark) (λ k. share k * c k) n.wires drivers marks

  bundled_is : (g m k j : ℕ) → together n mark g m k ≡ true → bundled n mark k j ≡ together n mark g m j
  bundled_is g m k j belongs =
      let parts = and_parts (eqb (n.driver k) g) (eqb (mark_of n mark k) m) belongs in
      rw (eqb-true (mark_of n mark k) m parts.1, eqb-true (n.driver k) g parts.0)

  -- a bundle has no wire, or a wire with the share
  bundle_share : (g m : ℕ) → ((k : ℕ) × (k < n.wires) × (together n mark g m k ≡ true) × (share k ≡ 1) × ((c : ℕ → ℕ) → shared_in n mark share c g m ≡ c k)) ⊎ ((k : ℕ) → k < n.wires → together n mark g m k ≡ false)
  bundle_share g m =
      elim (some_or_none (together n mark g m) n.wires) [
        | inl found ↦
            let k = found.0 in
            let one : total (λ j. cond (together n mark g m j) (share j) 0) n.wires ≡ 1
            = total_same _ _ n.wires (λ j _. ap (λ t. cond t (share j) 0) (sym (bundled_is g m k j found.2))) ∙ single k found.1 in
            let at = weighed_at (together n mark g m) share n.wires one bits in
            inl (at.0, at.1, at.2, at.3, λ c. weighed_is (together n mark g m) share n.wires one c at.0 at.1 at.2 at.3)
        | inr none ↦ inr none
      ]

  nothing_in : (c : ℕ → ℕ) (g m : ℕ) → ((k : ℕ) → k < n.wires → together n mark g m k ≡ false) → shared_in n mark share c g m ≡ 0
  nothing_in c g m none = total_zero (λ k. cond (together n mark g m k) (share k * c k) 0) n.wires (λ k h. cond-false _ (share k * c k) 0 (none k h))

  in_le : (c : ℕ → ℕ) (g m : ℕ) → shared_in n mark share c g m ≤ greatest (together n mark g m) c n.wires
  in_le c g m = elim (bundle_share g m) [
    | inl at ↦ omega (arith, at.4 c, greatest_ge (together n mark g m) c n.wires at.0 at.1 at.2)
    | inr none ↦ omega (arith, nothing_in c g m none)
  ]

  pub shared_le : (c : ℕ → ℕ) → shared n share c ≤ tally_with bound n mark c
  shared_le c = omega (arith, by_bundle c, total_le _ _ n.gates (λ g _. total_le _ _ bound (λ m _. in_le c g m)))

  -- if the shares add up to the tally, each stands on a wire with the greatest count of its bundle
  pub shared_deepest : (c : ℕ → ℕ) → tally_with bound n mark c ≤ shared n share c → (k j : ℕ) → k < n.wires → j < n.wires → share k ≡ 1 → bundled n mark k j ≡ true → c j ≤ c k
  shared_deepest c tight k j hk hj picked fellow =
      let g = n.driver k in
      let m = mark_of n mark k in
      let self : together n mark g m k ≡ true = and_from _ _ (eq-eqb g g refl) (eq-eqb m m refl) in
      let here = weighed_is (bundled n mark k) share n.wires (single k hk) c k hk self picked in
      let gates_tight = total_tight (λ g. total (λ m. shared_in n mark share c g m) bound) (λ g. total (λ m. greatest (together n mark g m) c n.wires) bound) n.gates (λ g _. total_le _ _ bound (λ m _. in_le c g m)) (omega (arith, by_bundle c)) g (drivers k hk) in
      let marks_tight = total_tight (λ m. shared_in n mark share c g m) (λ m. greatest (together n mark g m) c n.wires) bound (λ m _. in_le c g m) (omega arith) m (marks k hk) in
      omega (arith, here, marks_tight, greatest_ge (together n mark g m) c n.wires j hj fellow)

  -- if each share stands on such a wire, they add up to the tally
  pub shared_is : (c : ℕ → ℕ) → ((k j : ℕ) → k < n.wires → j < n.wires → share k ≡ 1 → bundled n mark k j ≡ true → c j ≤ c k) → shared n share c ≡ tally_with bound n mark c
  shared_is c deepest = omega (arith, shared_le c, by_bundle c, total_le _ _ n.gates (λ g _. total_le _ _ bound (λ m _. le_in g m)))
    where
      le_in : (g m : ℕ) → greatest (together n mark g m) c n.wires ≤ shared_in n mark share c g m
      le_in g m = elim (bundle_share g m) [
        | inl at ↦ omega (arith, at.4 c, greatest_le (together n mark g m) c n.wires (c at.0) (λ j h fellow. deepest at.0 j at.1 h at.3 (bundled_is g m at.0 j at.2 ∙ fellow)))
        | inr none ↦ omega (arith, greatest_none (together n mark g m) c n.wires none)
      ]
