use Rattle.std.proofs.Common.{arith}
use Rattle.std.proofs.lemmas.Result.{err_from_is_err_and}
use Rattle.pawn_outside.proofs.SoFarLaws.{so_far_none, so_far_more, so_far_cut, so_far_done}
use Rattle.command_texts.proofs.TableLaws.{tables_from, tables_end}
use Rattle.command_texts.proofs.explanation.say_tables.Goals as goal

pub loop-table-init : goal.loop-table-init
loop-table-init g c = so_far_none c.args.out.now _

pub loop-table-preserved : goal.loop-table-preserved
loop-table-preserved g c =
    so_far_more c.loop-table.invariant
    (tables_from c.args.asked c.args.tables.now c.loop-table.table-index _ c.loop-table-test.true)
    c.in_ok-say_table.ensures

pub returns-in_err-say_table : goal.returns-in_err-say_table
returns-in_err-say_table g c =
    let is = err_from_is_err_and c.from_residual.result c.from_residual.ensures.1 in
    so_far_cut c.loop-table.invariant _
    (tables_from c.args.asked c.args.tables.now c.loop-table.table-index _ c.loop-table-test.true)
    c.from_residual.result is.1 c.in_err-say_table.ensures

pub returns : goal.returns
returns g c =
    so_far_done c.loop-table.invariant
    (tables_end c.args.asked c.args.tables.now c.loop-table.table-index
    (omega (arith, c.loop-table-test.false)))
