-- The pinned gates that come first: how many they are, and the lowest pinned gate behind an unpinned one.
use Rattle.std.proofs.Common.{◌≡◌, ℕ, zero, suc, ◌<◌, ◌≤◌, min, Bool, true, false, cond, ltb, Option, Some, None, unwrap_or, MatchOption, sym, ◌∙◌, subst, inl, inr, ⊎_elim, arith}
use Rattle.std.proofs.lemmas.Bool.{both_ways, cases_lt, lt-ltb, le-ltb}
use Rattle.graph.specs.Sums.{total}
use Rattle.netlist.specs.Net.{Net}
use Rattle.wiring.specs.Check.{NoneBelow, Lowest}
use Rattle.output.specs.Written.{Late, IsLeading, PinsFirst}

-- the first gate that is not pinned, as it was found
pub leading_from_first : (n : Net) (gates number : ℕ) → gates ≡ n.gates → (r : Option ℕ) → number ≡ unwrap_or r gates → MatchOption r ((k : ℕ) → 0 ≤ k → k < gates → n.pinned k ≡ true) (λ i. (0 ≤ i) × (i < gates) × (n.pinned i ≡ false) × ((k : ℕ) → 0 ≤ k → k < i → n.pinned k ≡ true)) → IsLeading n number
leading_from_first n gates number all None is none = record { within = omega arith; pinned = λ g l. none g (omega arith) (omega arith); free = λ l. absurd (omega (arith, l)) }
leading_from_first n gates number all (Some i) is first = subst (IsLeading n) (sym is) (record { within = omega (arith, first.1); pinned = λ g l. first.3 g (omega arith) l; free = λ _. first.2 })

counted : (p : ℕ → Bool) (number m : ℕ) → ((g : ℕ) → g < m → p g ≡ ltb g number) → min m number ≡ total (λ g. cond (p g) 1 0) m
counted p number zero same = omega arith
counted p number (suc m) same = elim (cases_lt m number) [
  | inl l ↦ rw (same m (omega arith) ∙ lt-ltb m number l) (omega (arith, counted p number m (λ g h. same g (omega arith))))
  | inr past ↦ rw (same m (omega arith) ∙ le-ltb m number past) (omega (arith, counted p number m (λ g h. same g (omega arith))))
]

module _ (n : Net) (number : ℕ) (leading : IsLeading n number) where
  -- no gate below the number stands behind an unpinned one
  not_late : (g : ℕ) → g < number → Late n g → ⊥
  not_late g l late = both_ways _ late.gap_free (leading.pinned late.gap (omega (arith, late.gap_below)))

  free_not_late : (bound : ℕ) → ((g : ℕ) → number ≤ g → g < bound → n.pinned g ≡ false) → NoneBelow bound (Late n)
  free_not_late bound free g l late = ⊎_elim (λ low. not_late g low late) (λ high. both_ways _ (free g high l) late.pinned) (cases_lt g number)

  pub pins_first : ((g : ℕ) → number ≤ g → g < n.gates → n.pinned g ≡ false) → PinsFirst n number
  pins_first free = let told : (g : ℕ) → g < n.gates → n.pinned g ≡ ltb g number = λ g l. ⊎_elim (λ low. leading.pinned g low ∙ sym (lt-ltb g number low)) (λ high. free g high l ∙ sym (le-ltb g number high)) (cases_lt g number) in
      record {
        counted = omega (arith, counted n.pinned number n.gates told, leading.within);
        first = (leading.within, told);
        none_late = free_not_late n.gates free;
      }

  pub late_pin : (gate : ℕ) → number ≤ gate → gate < n.gates → n.pinned gate ≡ true → ((g : ℕ) → number ≤ g → g < gate → n.pinned g ≡ false) → Lowest n.gates (Late n) gate
  late_pin gate high within pinned free =
      let gap_free = leading.free (omega arith) in
      let IsFree : ℕ → Type 0 = λ g. n.pinned g ≡ false in
      let above : number < gate = ⊎_elim (λ l. l) (λ past. absurd (both_ways (n.pinned gate) (subst IsFree (omega arith) gap_free) pinned)) (cases_lt number gate) in
      record {
        within = within;
        here = record { pinned = pinned; gap = number; gap_below = above; gap_free = gap_free };
        before = free_not_late gate free;
      }
