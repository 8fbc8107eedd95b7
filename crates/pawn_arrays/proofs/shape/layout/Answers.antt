use Rattle.std.proofs.lemmas.Result.{IfOk-weaker}
use Rattle.pawn_arrays.proofs.LayoutLaws.{layout_one, rows_shape, blocks_shape}
use Rattle.pawn_arrays.proofs.shape.layout.Goals as goal

pub returns-in-None-clause-offsets : goal.returns-in-None-clause-offsets
returns-in-None-clause-offsets c =
    rows_shape c.args.shape.now _ _ _ c.in-Some.is c.in-None.is c.new-offsets.ensures
    c.in_ok-offsets.ensures

pub returns-in-None-clause-only : goal.returns-in-None-clause-only
returns-in-None-clause-only c offsets laid =
    layout_one c.args.shape.now offsets laid _ (returns-in-None-clause-offsets c)

pub returns-in-Some-third-clause-offsets : goal.returns-in-Some-third-clause-offsets
returns-in-Some-third-clause-offsets c = IfOk-weaker _ _ _ (λ given has.
    blocks_shape c.args.shape.now _ _ _ _ given c.in-Some.is c.in-Some-third.is
    c.new-offsets.ensures c.in_ok-offsets.ensures has) c.with_vector-in-Some-third.ensures

pub returns-in-Some-third-clause-only : goal.returns-in-Some-third-clause-only
returns-in-Some-third-clause-only c offsets laid =
    IfOk-weaker _ _ _ (λ given other. layout_one c.args.shape.now offsets laid given other)
    (returns-in-Some-third-clause-offsets c)
