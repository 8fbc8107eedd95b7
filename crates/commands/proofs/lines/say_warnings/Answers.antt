use Rattle.std.proofs.Common.{arith}
use Rattle.std.proofs.lemmas.Result.{err_from_is_err_and}
use Rattle.pawn_outside.proofs.SoFarLaws.{so_far_none, so_far_more, so_far_cut, so_far_done}
use Rattle.commands.proofs.LineLaws.{from_warning, from_end}
use Rattle.commands.proofs.lines.say_warnings.Goals as goal

pub loop-warning-init : goal.loop-warning-init
loop-warning-init g c = so_far_none c.args.out.now _

pub loop-warning-preserved : goal.loop-warning-preserved
loop-warning-preserved g c =
    let first =
    from_warning c.args.warnings.now c.loop-warning.warning-index c.warning-item.result
    c.loop-warning-test.true c.warning-item.is in
    so_far_more c.loop-warning.invariant first c.in_ok-say_warning.ensures

pub returns-in_err-say_warning : goal.returns-in_err-say_warning
returns-in_err-say_warning g c =
    let first =
    from_warning c.args.warnings.now c.loop-warning.warning-index c.warning-item.result
    c.loop-warning-test.true c.warning-item.is in
    let is = err_from_is_err_and c.from_residual.result c.from_residual.ensures.1 in
    so_far_cut c.loop-warning.invariant _ first c.from_residual.result is.1
    c.in_err-say_warning.ensures

pub returns : goal.returns
returns g c =
    so_far_done c.loop-warning.invariant
    (from_end c.args.warnings.now c.loop-warning.warning-index
    (omega (arith, c.loop-warning-test.false)))
