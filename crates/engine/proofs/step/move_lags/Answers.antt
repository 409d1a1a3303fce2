use Rattle.std.proofs.Common.{◌<◌, length, ap, ◌∙◌, arith, to_z-of_z, w32, SFits, rules}
use Rattle.retiming.specs.Push.{push}
use Rattle.engine.specs.Table.{lags_of}
use Rattle.engine.proofs.Slacks.{moved_marked, moved_unmarked}
use Rattle.engine.proofs.step.move_lags.Goals as goal
use Rattle.engine.proofs.step.move_lags.Goals.{then-marks-g-eq1, else-marks-g-eq1}

pub loop-g-preserved : goal.loop-g-preserved
loop-g-preserved c =
    let lags = c.loop-g.lags in
    let g = c.loop-g.g in
    let room : g < length lags = omega arith in
    let fits : SFits w32 (lags_of lags g) = search rules in
    elim c.if-marks-g-eq1.branch [
      | then-marks-g-eq1 w ↦ let out : SFits w32 w.pushed.result = search rules in
          rw w.lags-is (moved_marked c.args.way c.args.by c.args.marks.now c.args.lags.now lags g c.loop-g.invariant _ room w.if-marks-g-eq1.true (to_z-of_z out ∙ w.pushed.ensures ∙ ap (push c.args.way c.args.by) (to_z-of_z fits)))
      | else-marks-g-eq1 w ↦ rw w.lags-is (moved_unmarked c.args.way c.args.by c.args.marks.now c.args.lags.now lags g c.loop-g.invariant w.if-marks-g-eq1.false)
    ]
