use Rattle.std.proofs.Common.{◌∙◌, arith, sym}
use Rattle.command_texts.proofs.TableLaws.{found_from, later_from, has_end}
use Rattle.command_texts.proofs.explanation.have_row.Goals as goal

pub returns-then-has_row : goal.returns-then-has_row
returns-then-has_row c =
    sym (found_from c.args.number c.args.tables.now c.loop-table.table-index _ c.has_row.result
    c.loop-table-test.true c.if-has_row.true c.has_row.ensures)
    ∙ c.loop-table.invariant

pub loop-table-preserved : goal.loop-table-preserved
loop-table-preserved c =
    sym (later_from c.args.number c.args.tables.now c.loop-table.table-index _ c.has_row.result
    c.loop-table-test.true c.if-has_row.false c.has_row.ensures)
    ∙ c.loop-table.invariant

pub returns : goal.returns
returns c =
    sym (has_end c.args.number c.args.tables.now c.loop-table.table-index
    (omega (arith, c.loop-table-test.false)))
    ∙ c.loop-table.invariant
