-- What a refused table is told as.
use Rattle.std.specs.Prelude.{ℕ, List, codes}
use Rattle.engine.specs.declared.fault.TableFault.{TableFault}
use Rattle.engine.specs.declared.fault.TableFault.TheVariants.{Unfit, ShortRow}

abbrev pub message : TableFault → List ℕ
message Unfit = codes "the table is not fit"
message ShortRow = codes "a row is shorter than the table has wires"
