-- A file that is opened and written again: an accepted one comes out byte for byte.
use Rattle.std.proofs.Common.{◌≡◌, ℕ, ◌<◌, List, length, get_or, take, refl, ap, ◌∙◌, subst, ⊎_elim, arith}
use Rattle.std.proofs.lemmas.List.{get_or-take, get_or_past, length-take}
use Rattle.std.proofs.lemmas.Bool.{cases_lt, ltb-true, ltb-false}
use Rattle.drawing.specs.File.{drawn, Accepts, Opened}
use Rattle.netlist.specs.Net.{Net}
use Rattle.wiring.specs.List.{no_gates}
use Rattle.output.specs.declared.fault.WriteFault.{WriteFault}
use Rattle.output.specs.declared.fault.WriteFault.TheVariants.{ShortRow, CountTooLarge, LatePin}
use Rattle.output.specs.Rewritten.{Rewritten, TooShort}
use Rattle.output.specs.Written.{Written, Unwritten, Fails}
use Rattle.output.proofs.Determined.{determined}

-- the front of a row of bytes
bytes_take : (b : List ℕ) (r : ℕ) → ((i : ℕ) → get_or b i 0 < 256) → (i : ℕ) → get_or (take r b) i 0 < 256
bytes_take b r small i = ⊎_elim (λ l. omega (arith, get_or-take r b i 0 l, small i)) (λ past. omega (arith, get_or_past (take r b) i 0 (simp length-take (omega arith)))) (cases_lt i r)

module _ (b : List ℕ) (n : Net) (opened : Opened b n) (before : List ℕ) where
  module _ (bytes : (i : ℕ) → get_or b i 0 < 256) (after : List ℕ) (bytes_after : (i : ℕ) → get_or after i 0 < 256) (r : ℕ) (written : Written n before after r) where
    pub rewritten : Rewritten b before after r
    rewritten = record {
      accepted = λ ok. let is = opened.accepted ok in (
        omega (arith, written.size_is, ap (λ m. m.wires) is, ok.sized.exact),
        determined (take r after) b (bytes_take after r bytes_after) bytes written.accepted ok (written.same ∙ is),
      );
      refused = λ f no. let is = opened.refused f no in (omega (arith, written.size_is, ap (λ m. m.wires) is), written.same ∙ is);
      room = written.room;
      kept = written.kept;
    }

  short_accepted : (long : ℕ) (f : WriteFault) → Accepts b → Fails (drawn b) long f → (f ≡ ShortRow) × (long < length b)
  short_accepted long ShortRow ok fail = (refl, omega (arith, ok.sized.exact))
  short_accepted long (CountTooLarge k) ok fail = absurd (ok.pass.counts k fail.1.within fail.1.here)
  short_accepted long (LatePin g) ok fail = let late = fail.2.here in absurd (omega (arith, ltb-true _ _ late.pinned, ltb-false _ _ late.gap_free, late.gap_below))

  short_refused : (long : ℕ) (f : WriteFault) → Fails no_gates long f → (f ≡ ShortRow) × (long < 6)
  short_refused long ShortRow fail = (refl, fail)
  short_refused long (CountTooLarge k) fail = absurd (omega (arith, fail.1.within))
  short_refused long (LatePin g) fail = absurd (omega (arith, fail.2.within))

  pub too_short : (after : List ℕ) (f : WriteFault) → Unwritten n before after f → TooShort b before after f
  too_short after f refused = record {
    accepted = λ ok. short_accepted (length before) f ok (subst (λ m. Fails m (length before) f) (opened.accepted ok) refused.fault);
    refused = λ e no. short_refused (length before) f (subst (λ m. Fails m (length before) f) (opened.refused e no) refused.fault);
    unchanged = refused.unchanged;
  }
