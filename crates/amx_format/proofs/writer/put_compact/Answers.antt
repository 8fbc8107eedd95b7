use Rattle.std.proofs.Common.{rules, pos, get_or, FitsSigned, w32, to_z-of_z}
use Rattle.amx_format.proofs.RowLaws.{compact_step}
use Rattle.amx_format.proofs.writer.put_compact.Goals as goal

pub loop-cell-preserved : goal.loop-cell-preserved
loop-cell-preserved c =
    let fits : FitsSigned w32 (get_or c.args.row.now c.loop-cell.cell-index (pos 0)) =
    search rules in
    compact_step c.args.row.now c.loop-cell.cell-index _ c.loop-cell.out _ _ c.loop-cell-test.true
    (to_z-of_z fits) c.loop-cell.invariant c.in_ok-write_cell.ensures.ok
