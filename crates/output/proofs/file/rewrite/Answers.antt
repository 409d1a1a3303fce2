use Rattle.std.proofs.Common.{rules}
use Rattle.std.proofs.lemmas.Result.{err_from_is_err_and}
use Rattle.drawing.specs.File.{Opened}
use Rattle.wiring.specs.Wiring.{wiring_net}
use Rattle.output.proofs.Rewriting.{too_short}
use Rattle.output.proofs.file.rewrite.Goals as goal

pub returns-in_err-size : goal.returns-in_err-size
returns-in_err-size c =
    let p = err_from_is_err_and c.from_residual-in_err-size.result c.from_residual-in_err-size.ensures.1 in
    let net = wiring_net c.in_ok-net.net in
    let opened : Opened c.args.bytes.now net = search rules in
    rw (p.1, p.2) (too_short c.args.bytes.now net opened c.args.out.now c.write.new.bytes _ c.in_err-size.ensures)
