-- The number and the place of each fault.
use Rattle.refusal.specs.declared.Refusal.{Refusal}
use Rattle.graph.specs.declared.fault.SearchFault.{SearchFault}
use Rattle.graph.specs.declared.fault.SearchFault.TheVariants.{ShortRow}

abbrev pub refusal : SearchFault → Refusal
refusal ShortRow = record { number = 41; place = 0 }
