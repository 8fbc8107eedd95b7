use Rattle.std.proofs.Common.{◌∙◌, sym, ap, to_z, of_z, w32, FitsSigned}
use Rattle.std.proofs.lemmas.Int.{to_z-of_z}
use Rattle.amx_ops.proofs.PlaceLaws.{row_kept, row_left}
use Rattle.amx_ops.proofs.table.row_in.Goals as goal

pub returns-then-from-cell : goal.returns-then-from-cell
returns-then-from-cell c =
    let f : FitsSigned w32 c.args.cell = c.ranges.cell in
    let g : FitsSigned w32 c.from.result = record { sfits = c.from.type_inv } in
    let bits = rw (to_z-of_z w32 c.args.cell f) at c.cast_unsigned.ensures in
    row_kept c.args.rows.now _ c.args.cell c.place_of.result c.requires c.place_of.ensures.within
    (λ k row e h. c.place_of.ensures.place k row e (h ∙ sym bits))
    (sym c.from.ensures ∙ sym (to_z-of_z w32 c.from.result g) ∙ ap (to_z w32) c.if-from-cell.true
    ∙ to_z-of_z w32 c.args.cell f)

pub returns-else-from-cell : goal.returns-else-from-cell
returns-else-from-cell c =
    let f : FitsSigned w32 c.args.cell = c.ranges.cell in
    let bits = rw (to_z-of_z w32 c.args.cell f) at c.cast_unsigned.ensures in
    row_left c.args.rows.now _ c.args.cell c.place_of.result c.requires c.place_of.ensures.within
    (λ k row e h. c.place_of.ensures.place k row e (h ∙ sym bits))
    (λ same. c.if-from-cell.false (ap (of_z w32) (c.from.ensures ∙ same)))
