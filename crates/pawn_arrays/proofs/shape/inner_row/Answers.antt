use Rattle.std.proofs.Common.{ap, unwrap_or}
use Rattle.pawn_arrays.proofs.LayoutLaws.{inner_place_is}
use Rattle.pawn_arrays.proofs.shape.inner_row.Goals as goal

pub returns-clause-place : goal.returns-clause-place
returns-clause-place c =
    inner_place_is c.args.shape.now c.unwrap-second.result c.unwrap.result c.args.index c.args.inner
    (ap (λ second. unwrap_or second 0) c.unwrap-second.ensures)
    (ap (λ third. unwrap_or third 0) c.unwrap.ensures)
