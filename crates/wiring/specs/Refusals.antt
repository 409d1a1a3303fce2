-- The number and the place of each fault of the check.
use Rattle.refusal.specs.declared.Refusal.{Refusal}
use Rattle.wiring.specs.declared.fault.CheckFault.{CheckFault}
use Rattle.wiring.specs.declared.fault.CheckFault.TheVariants.{ShortFile, TooLarge, WrongLength, NoGate, CountTooLarge, FreeRound}

abbrev pub refusal : CheckFault → Refusal
refusal ShortFile = record { number = 11; place = 0 }
refusal TooLarge = record { number = 12; place = 0 }
refusal WrongLength = record { number = 13; place = 0 }
refusal (NoGate k) = record { number = 14; place = k }
refusal (CountTooLarge k) = record { number = 15; place = k }
refusal (FreeRound k) = record { number = 16; place = k }
