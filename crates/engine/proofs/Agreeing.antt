-- A witness is one by what it says of wires alone.
use Rattle.std.proofs.Common.{◌≡◌, ℕ, ◌<◌, Bool, cond, eqb, sym, ap, ◌∙◌, arith}
use Rattle.graph.proofs.Totals.{total_same}
use Rattle.netlist.specs.Net.{Net}
use Rattle.netlist.specs.Tally.{Marking}
use Rattle.retiming.specs.Witness.{into, out_of, bundled, Witness}

module _ (m : Net) (mark : Marking) (fixed : ℕ → Bool) (share flow share' flow' : ℕ → ℕ) (shares : (k : ℕ) → k < m.wires → share' k ≡ share k) (flows : (k : ℕ) → k < m.wires → flow' k ≡ flow k) where
  into_same : (f f' : ℕ → ℕ) → ((k : ℕ) → k < m.wires → f' k ≡ f k) → (g : ℕ) → into m f' g ≡ into m f g
  into_same f f' same g = total_same _ _ m.wires (λ k h. ap (λ x. cond (eqb (m.driven k) g) x 0) (same k h))

  out_same : (f f' : ℕ → ℕ) → ((k : ℕ) → k < m.wires → f' k ≡ f k) → (g : ℕ) → out_of m f' g ≡ out_of m f g
  out_same f f' same g = total_same _ _ m.wires (λ k h. ap (λ x. cond (eqb (m.driver k) g) x 0) (same k h))

  pub witness_same : Witness m mark fixed share flow → Witness m mark fixed share' flow'
  witness_same w = record {
    certificate = record {
      bits = λ k h. rw (shares k h) (w.certificate.bits k h);
      single = λ k h. total_same _ _ m.wires (λ j l. ap (λ x. cond (bundled m mark k j) x 0) (shares j l)) ∙ w.certificate.single k h;
      deepest = λ k j hk hj picked. w.certificate.deepest k j hk hj (sym (shares k hk) ∙ picked);
      dry = λ k h full. flows k h ∙ w.certificate.dry k h full;
    };
    small = λ k h. rw (flows k h) (w.small k h);
    balanced = λ g h free. omega (arith, w.balanced g h free, into_same share share' shares g, out_same flow flow' flows g, out_same share share' shares g, into_same flow flow' flows g);
  }
