-- The number and the place of each fault of writing out.
use Rattle.refusal.specs.declared.Refusal.{Refusal}
use Rattle.output.specs.declared.fault.SettleFault.{SettleFault}
use Rattle.output.specs.declared.fault.SettleFault.TheVariants.{ShortList}
use Rattle.output.specs.declared.fault.WriteFault.{WriteFault}
use Rattle.output.specs.declared.fault.WriteFault.TheVariants.{ShortRow, CountTooLarge, LatePin}

abbrev pub settle_refusal : SettleFault → Refusal
settle_refusal ShortList = record { number = 20; place = 0 }

abbrev pub write_refusal : WriteFault → Refusal
write_refusal ShortRow = record { number = 17; place = 0 }
write_refusal (CountTooLarge k) = record { number = 18; place = k }
write_refusal (LatePin g) = record { number = 19; place = g }
