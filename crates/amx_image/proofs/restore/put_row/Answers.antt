use Rattle.std.proofs.Common.{◌≡◌, ◌++◌, ◌∙◌, rules, length, drop, ap, arith, w32, FitsSigned}
use Rattle.std.proofs.lemmas.Int.{to_z-of_z}
use Rattle.pawn_cells.specs.Cells.{bits_of, cell_of}
use Rattle.amx_ops.specs.Moves.{live_from}
use Rattle.amx_step.specs.Hosting.{with_live}
use Rattle.amx_format.specs.Numbers.{cells_at}
use Rattle.amx_machine.specs.Machine.{resting}
use Rattle.amx_image.proofs.ImageLaws.{address_back}
use Rattle.amx_image.proofs.RowLaws.{length-cells_at, live_row, row_put}
use Rattle.amx_image.proofs.restore.put_row.Goals as goal

pub put_cells-requires-clause-room : goal.put_cells-requires-clause-room
put_cells-requires-clause-room c =
    let s = c.args.machine.now.state in
    let signed : c.cast_signed.result ≡ cell_of c.args.at = search rules in
    let fits : FitsSigned w32 c.cast_signed.result = record { sfits = c.cast_signed.type_inv } in
    let back =
    ap bits_of (to_z-of_z w32 c.cast_signed.result fits ∙ signed)
    ∙ address_back c.args.at c.ranges.at.fits in
    let part = c.live_from_mut.ensures.value ∙ ap (live_from s) back in
    omega (
      arith,
      ap length part,
      live_row s c.args.at c.args.count c.requires.live c.registers.ensures.kept.in_order.order.1,
    )

pub returns : goal.returns
returns c =
    let m = c.args.machine.now in
    let row = cells_at c.args.bytes.now c.args.place c.args.count in
    let signed : c.cast_signed.result ≡ cell_of c.args.at = search rules in
    let fits : FitsSigned w32 c.cast_signed.result = record { sfits = c.cast_signed.type_inv } in
    let back =
    ap bits_of (to_z-of_z w32 c.cast_signed.result fits ∙ signed)
    ∙ address_back c.args.at c.ranges.at.fits in
    let part = c.live_from_mut.ensures.value ∙ ap (live_from m.state) back in
    let given : c.put_cells.new.row ≡ row ++ drop c.args.count (live_from m.state c.args.at) =
    c.put_cells.ensures ∙ ap (λ cells. row ++ drop c.args.count cells) part in
    ap (λ at. record m { state = resting m.mode (with_live m.state at c.put_cells.new.row) }) back
    ∙ row_put m c.args.at c.args.count row c.put_cells.new.row c.registers.ensures.kept
    c.requires.live (length-cells_at c.args.bytes.now c.args.place c.args.count) given
