use Rattle.amx_verify.proofs.KindLaws.{kinds-more}
use Rattle.amx_verify.proofs.marked.kinds_of.Goals as goal

pub loop-place-preserved : goal.loop-place-preserved
loop-place-preserved c =
    kinds-more _ _ _ c.first_kind-kind.result.0 c.loop-place.passed _ c.loop-place.place
    c.args.cells.now c.split_at.result.1.now c.in_ok-push.ensures.items
    c.split_at.ensures.back c.first_kind-kind.ensures c.loop-place.invariant
