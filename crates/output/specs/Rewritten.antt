-- A file that is opened and written again: what stands in the row of bytes afterwards, and when nothing is written.
use Rattle.std.specs.Prelude.{◌≡◌, ℕ, ◌<◌, ◌≤◌, List, length, take, Result, MatchResult}
use Rattle.drawing.specs.File.{drawn, Accepts, Refuses}
use Rattle.wiring.specs.declared.fault.CheckFault.{CheckFault}
use Rattle.wiring.specs.List.{no_gates}
use Rattle.output.specs.declared.fault.RewriteFault.{RewriteFault}
use Rattle.output.specs.declared.fault.RewriteFault.TheVariants.{Memory, Write}
use Rattle.output.specs.declared.fault.WriteFault.{WriteFault}
use Rattle.output.specs.declared.fault.WriteFault.TheVariants.{ShortRow}
use Rattle.output.specs.Numbers.{KeptFrom}

-- an accepted file b stands in front byte for byte, for a refused one the file without gates; later bytes are kept
pub record Rewritten (b before after : List ℕ) (r : ℕ) : Type 0 where
  pub accepted : Accepts b → (r ≡ length b) × (take r after ≡ b)
  pub refused : (f : CheckFault) → Refuses b f → (r ≡ 6) × (drawn (take r after) ≡ no_gates)
  pub room : r ≤ length before
  pub kept : KeptFrom r before after

-- the row is too short for what would be written, and all is as it was
pub record TooShort (b before after : List ℕ) (f : WriteFault) : Type 0 where
  pub accepted : Accepts b → (f ≡ ShortRow) × (length before < length b)
  pub refused : (e : CheckFault) → Refuses b e → (f ≡ ShortRow) × (length before < 6)
  pub unchanged : after ≡ before

abbrev pub Unrewritten : List ℕ → List ℕ → List ℕ → RewriteFault → Type 0
Unrewritten b before after Memory = after ≡ before
Unrewritten b before after (Write f) = TooShort b before after f

abbrev pub Rewrites : List ℕ → List ℕ → List ℕ → Result ℕ RewriteFault → Type 0
Rewrites b before after r = MatchResult r (Rewritten b before after) (Unrewritten b before after)
