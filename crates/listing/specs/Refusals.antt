-- The number and the place of each fault of a run.
use Rattle.std.specs.Prelude.{Some, None, Option}
use Rattle.refusal.specs.declared.Refusal.{Refusal}
use Rattle.listing.specs.declared.fault.RunFault.{RunFault}
use Rattle.listing.specs.declared.fault.RunFault.TheVariants.{Drawing, Memory}

abbrev pub refusal : RunFault → Option Refusal
refusal (Drawing f) = Some (record { number = 45; place = 0 })
refusal Memory = None
