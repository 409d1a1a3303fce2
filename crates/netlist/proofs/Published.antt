-- The tally under the two rules is the two register sums of the literature.
use Rattle.std.proofs.Common.{◌≡◌, ℕ, zero, suc, ◌<◌, ◌≤◌, Bool, true, false, ◌&&◌, eqb, sym, refl, ◌∙◌, arith}
use Rattle.std.proofs.lemmas.Bool.{ne_eqb, and_right}
use Rattle.graph.specs.Sums.{total}
use Rattle.netlist.specs.Net.{Net}
use Rattle.netlist.specs.Tally.{greatest, together, tally_of, shared_sum, alone_sum}
use Rattle.netlist.proofs.Greatest.{greatest_none, greatest_same}
use Rattle.graph.proofs.Totals.{total_same, total_only}
use Rattle.netlist.proofs.Tallies.{sofar, sofar_none, sofar_more}

and_true : (b : Bool) → (b && true) ≡ b
and_true true = refl
and_true false = refl

module _ (n : Net) where
  shared : (bound : ℕ) → 0 < bound → sofar bound n (λ _ _ _. 0) n.wires ≡ shared_sum n
  shared bound some = total_same _ _ n.gates (λ g _.
      total_only (λ m. greatest (together n (λ _ _ _. 0) g m) n.count n.wires) bound 0 some (λ m _ other. greatest_none _ n.count n.wires (λ k _. and_right _ _ (ne_eqb 0 m (λ e. other (sym e)))))
      ∙ greatest_same _ _ n.count n.wires (λ k _. and_true (eqb (n.driver k) g)))

  pub share_all_is : tally_of n (λ _ _ _. 0) ≡ shared_sum n
  unfolding tally_of
  share_all_is = shared 4096 (omega arith)

  alone : (bound k : ℕ) → ((j : ℕ) → j < k → n.driver j < n.gates) → k ≤ bound → sofar bound n (λ _ _ j. j) k ≡ total n.count k
  alone bound zero ends few = sofar_none bound n (λ _ _ j. j)
  alone bound (suc k) ends few =
      let fresh = greatest_none (together n (λ _ _ j. j) (n.driver k) k) n.count k (λ j l. and_right _ _ (ne_eqb j k (omega arith))) in
      omega (arith, alone bound k (λ j l. ends j (omega arith)) (omega arith), sofar_more bound n (λ _ _ j. j) k (ends k (omega arith)) (omega arith), fresh)

  pub each_alone_is : ((j : ℕ) → j < n.wires → n.driver j < n.gates) → n.wires ≤ 4096 → tally_of n (λ _ _ j. j) ≡ alone_sum n
  unfolding tally_of
  each_alone_is = alone 4096 n.wires
