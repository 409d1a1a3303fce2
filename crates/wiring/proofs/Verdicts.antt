-- The verdict on a list from the verdict on its wires, and that no list is both accepted and refused.
use Rattle.std.proofs.Common.{ℕ, List, length, Ok, Err, Result, MatchResult}
use Rattle.wiring.specs.declared.fault.CheckFault.{CheckFault}
use Rattle.wiring.specs.declared.fault.CheckFault.TheVariants.{ShortFile, TooLarge, WrongLength, NoGate, CountTooLarge, FreeRound}
use Rattle.wiring.specs.declared.wire.Wire.{Wire}
use Rattle.wiring.specs.Check.{Fits, WiresPass, WiresFail}
use Rattle.wiring.specs.List.{listed, Passes, Fails}

module _ (limit gates pins : ℕ) (ws : List Wire) where
  pub fails_from_wires : (f : CheckFault) → Fits gates pins (length ws) → WiresFail limit (listed gates pins ws) f → Fails limit gates pins ws f
  fails_from_wires ShortFile fits w = absurd w
  fails_from_wires TooLarge fits w = absurd w
  fails_from_wires WrongLength fits w = absurd w
  fails_from_wires (NoGate k) fits w = (fits, w)
  fails_from_wires (CountTooLarge k) fits w = (fits, w)
  fails_from_wires (FreeRound k) fits w = (fits, w)

  pub verdict_from_wires : {T : Type 0} (r : Result T CheckFault) → Fits gates pins (length ws) → MatchResult r (λ _. WiresPass limit (listed gates pins ws)) (WiresFail limit (listed gates pins ws)) → MatchResult r (λ _. Passes limit gates pins ws) (Fails limit gates pins ws)
  verdict_from_wires (Ok x) fits pass = record { sizes = fits; wires = pass }
  verdict_from_wires (Err f) fits fail = fails_from_wires f fits fail

  pub not_both : (f : CheckFault) → Passes limit gates pins ws → Fails limit gates pins ws f → ⊥
  not_both ShortFile pass fail = fail
  not_both TooLarge pass fail = fail pass.sizes
  not_both WrongLength pass fail = fail
  not_both (NoGate k) pass fail = pass.wires.ends k fail.1.within fail.1.here
  not_both (CountTooLarge k) pass fail = pass.wires.counts k fail.1.1.within fail.1.1.here
  not_both (FreeRound k) pass fail = pass.wires.rounds k fail.1.2.within fail.1.2.here
