use Rattle.std.proofs.Common.{arith, refl}
use Rattle.amx_verify.proofs.LinkLaws.{link_more}
use Rattle.amx_verify.proofs.marked.Marked.check_links.Goals as goal

pub loop-place-preserved : goal.loop-place-preserved
loop-place-preserved c =
    let whole = c.in-Some.ensures.whole in
    link_more c.args.self.now.code c.from_cell.result.now c.loop-place.place c.from_cell.ensures
    c.loop-place.invariant
    c.in-Some.instruction _ c.in-Some.ensures.value whole.0
    (omega (arith, whole.1)) c.in_ok-check_link-in-Some.ensures refl
