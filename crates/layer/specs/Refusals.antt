-- The number and the place of each fault of an interleaving.
use Rattle.refusal.specs.declared.Refusal.{Refusal}
use Rattle.layer.specs.declared.fault.LayerFault.{LayerFault}
use Rattle.layer.specs.declared.fault.LayerFault.TheVariants.{BadFactor, CountTooLarge}

abbrev pub refusal : LayerFault → Refusal
refusal BadFactor = record { number = 21; place = 0 }
refusal (CountTooLarge k) = record { number = 22; place = k }
