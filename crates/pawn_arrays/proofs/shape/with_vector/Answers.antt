use Rattle.std.proofs.Common.{◌+◌, arith, sym, subst}
use Rattle.pawn_arrays.proofs.LayoutLaws.{has_more, has_all, HasSoFar, offset_leads, cell_of_offset}
use Rattle.pawn_arrays.proofs.shape.with_vector.Goals as goal

pub loop-index-preserved : goal.loop-index-preserved
loop-index-preserved c =
    let leads =
    offset_leads c.args.count c.args.size c.loop-index.index c.loop-index-test.true
    c.requires in
    let more =
    has_more c.args.count c.args.size c.args.offsets c.loop-index.index c.loop-index.offsets
    _ c.loop-index.invariant
    (cell_of_offset _ _ _ leads.0 leads.1) in
    subst (HasSoFar c.args.count c.args.size c.args.offsets (c.loop-index.index + 1))
    (sym c.in_ok-push.ensures.ok) more

pub returns : goal.returns
returns c = has_all c.args.count c.args.size c.args.offsets c.loop-index.index c.loop-index.offsets
    (omega (arith, c.loop-index-test.false, c.loop-index.auto.index-end)) c.loop-index.invariant
