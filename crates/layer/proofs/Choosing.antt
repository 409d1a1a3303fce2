-- The factor that is shown: 1 always passes, and no factor both passes and fails.
use Rattle.std.proofs.Common.{◌≡◌, ℕ, ◌≤◌, refl, ◌∙◌, one-mul, arith}
use Rattle.netlist.specs.Net.{Net}
use Rattle.layer.specs.declared.fault.LayerFault.{LayerFault}
use Rattle.layer.specs.declared.fault.LayerFault.TheVariants.{BadFactor, CountTooLarge}
use Rattle.layer.specs.Times.{times, Passes, Fails, Chosen, Shows, ShowsPaths}
use Rattle.layer.proofs.Scaling.{carries_times, times_one}

not_both : (factor : ℕ) (n : Net) (f : LayerFault) → Passes factor n → Fails factor n f → ⊥
not_both factor n BadFactor pass fail = fail pass.range
not_both factor n (CountTooLarge k) pass fail = pass.counts k fail.1.within fail.1.here

module _ (factor : ℕ) (n : Net) where
  pub chosen_refused : ((k : ℕ) → n.count k ≤ 1048575) → (f : LayerFault) → Fails factor n f → Chosen factor n 1
  chosen_refused small f fail = record {
    accepted = λ pass. absurd (not_both factor n f pass fail);
    refused = λ _ _. refl;
    passes = record { range = (omega arith, omega arith); counts = λ k l over. omega (arith, small k, one-mul (n.count k)) };
  }

  module _ (shown : ℕ) (chosen : Chosen factor n shown) (m : Net) (is : m ≡ times shown n) where
    pub shows : Shows factor n m
    shows = record {
      accepted = λ pass. is ∙ (λ i. times (chosen.accepted pass i) n);
      refused = λ f fail. is ∙ (λ i. times (chosen.refused f fail i) n) ∙ times_one n;
    }

    pub shows_paths : ShowsPaths factor n m
    shows_paths = record {
      accepted = λ pass. carries_times n factor m (shows.accepted pass);
      refused = λ f fail. carries_times n 1 m (is ∙ (λ i. times (chosen.refused f fail i) n));
    }
