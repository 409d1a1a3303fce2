-- What a run answers: the listing of an accepted drawing, or the fault of a refused one.
use Rattle.std.specs.Prelude.{◌≡◌, ℕ, List}
use Rattle.drawing.specs.File.{drawn, Accepts, Refuses}
use Rattle.listing.specs.declared.fault.RunFault.{RunFault}
use Rattle.listing.specs.declared.fault.RunFault.TheVariants.{Drawing, Memory}
use Rattle.listing.specs.Lines.{listing}

pub record Listed (bytes text : List ℕ) : Type 0 where
  pub accepted : Accepts bytes
  pub lines : text ≡ listing (drawn bytes)

-- memory fails only where the drawing has passed its check
abbrev pub Refused : List ℕ → RunFault → Type 0
Refused bytes (Drawing f) = Refuses bytes f
Refused bytes Memory = Accepts bytes
