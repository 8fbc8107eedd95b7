use Rattle.std.proofs.Common.{◌≡◌, ◌+◌, ◌*◌, ap, arith, unwrap_or}
use Rattle.pawn_arrays.specs.Layout.{row_place, part_cells}
use Rattle.pawn_arrays.proofs.LayoutLaws.{part_place-is}
use Rattle.pawn_arrays.proofs.shape.row.Goals as goal

pub returns-clause-place : goal.returns-clause-place
returns-clause-place c =
    let shape = c.args.shape.now in
    let size : part_cells shape ≡ c.unwrap.result =
    ap (λ second. unwrap_or second 0) c.unwrap.ensures in
    let product : c.args.index * part_cells shape ≡ c.args.index * c.unwrap.result =
    ap (λ n. c.args.index * n) size in
    let place : row_place shape c.args.index
    ≡ 4 * shape.first + 4 * (c.args.index * part_cells shape) =
    part_place-is (4 * shape.first) (part_cells shape) c.args.index in
    omega (arith, product, place)
