use Rattle.std.proofs.Common.{◌∙◌, rules, w32, FitsSigned, set, ap, arith}
use Rattle.std.proofs.lemmas.Int.{to_z-of_z}
use Rattle.amx_image.proofs.RowLaws.{row_more}
use Rattle.amx_image.proofs.restore.put_cells.Goals as goal

pub loop-index-preserved : goal.loop-index-preserved
loop-index-preserved c =
    let l = c.loop-index in
    let a = c.args in
    let cell = c.read_cell.result in
    let fits : FitsSigned w32 cell = search rules in
    rw (to_z-of_z w32 cell fits)
    (ap (λ row. set row l.index cell) l.invariant
    ∙ row_more a.row.now a.bytes.now a.place l.index cell c.read_cell.ensures
    (omega (arith, c.requires.room, c.loop-index-test.true)))
