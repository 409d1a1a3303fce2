use Rattle.engine.proofs.Owning.{Owned}
use Rattle.engine.proofs.check.has_one_driver.Given as goal

abbrev pub invariant-loop-link : goal.invariant-loop-link
invariant-loop-link l = Owned l.links l.owners l.link-index
