use Rattle.std.proofs.Common.{arith}
use Rattle.std.proofs.lemmas.Result.{err_from_is_err_and}
use Rattle.pawn_outside.proofs.SoFarLaws.{so_far_none, so_far_more, so_far_cut, so_far_done}
use Rattle.command_texts.proofs.TableLaws.{rows_from, rows_end}
use Rattle.command_texts.proofs.explanation.say_table.Goals as goal

pub loop-row-init : goal.loop-row-init
loop-row-init g c = so_far_none c.args.out.now _

pub loop-row-preserved : goal.loop-row-preserved
loop-row-preserved g c =
    so_far_more c.loop-row.invariant
    (rows_from c.args.asked c.args.rows.now c.loop-row.row-index _ c.loop-row-test.true)
    c.in_ok-say_row.ensures

pub returns-in_err-say_row : goal.returns-in_err-say_row
returns-in_err-say_row g c =
    let is = err_from_is_err_and c.from_residual.result c.from_residual.ensures.1 in
    so_far_cut c.loop-row.invariant _
    (rows_from c.args.asked c.args.rows.now c.loop-row.row-index _ c.loop-row-test.true)
    c.from_residual.result is.1 c.in_err-say_row.ensures

pub returns : goal.returns
returns g c =
    so_far_done c.loop-row.invariant
    (rows_end c.args.asked c.args.rows.now c.loop-row.row-index
    (omega (arith, c.loop-row-test.false)))
