use Rattle.std.proofs.Common.{arith}
use Rattle.names_sight.specs.Means.{around_view, means_view}
use Rattle.names_sight.proofs.SizeLaws.{size_goes_on}
use Rattle.names_sight.proofs.sizes.with_others.Goals as goal

pub loop-i-preserved : goal.loop-i-preserved
loop-i-preserved c = λ verdicts h.
    rw c.in_ok-push.ensures.items (size_goes_on (around_view c.args.cx.now) c.args.place
    (means_view c.args.cx.now) c.loop-i.sizes.items c.in_ok-kept.field-0
    verdicts c.args.dims.now c.loop-i.i c.index-dims-i.result (c.loop-i.invariant verdicts h)
    (omega arith) c.index-dims-i.is
    (c.in_ok-kept.ensures _ c.dim_size.ensures))
