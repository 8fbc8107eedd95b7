use Rattle.std.proofs.Common.{[], ◌∷◌}
use Rattle.pawn_meaning.specs.View.{scalar_view}
use Rattle.amx_ops.specs.declared.op.Op.TheVariants as op
use Rattle.gen_sim.specs.SimpleCode.{alone}
use Rattle.gen_expr.specs.RightView.{right_view}
use Rattle.gen_expr.specs.TargetCode.{change_part, popped_part}
use Rattle.gen_expr.proofs.GrowLaws.{then_grow}
use Rattle.gen_expr.proofs.update.update_waited.Goals as goal

pub returns : goal.returns
returns c =
    let p = scalar_view c.args.place.now in
    let last = popped_part p (change_part c.args.o (right_view c.args.how)) in
    let waits = alone op.PushAlt ∷ alone op.Xchg ∷ [] in
    then_grow c.args.b c.in_ok-b.b c.in_ok-b-3.b (alone op.PopAlt ∷ [])
    (alone op.PushAlt ∷ alone op.Xchg ∷ last) c.in_ok-b.ensures
    (then_grow c.in_ok-b.b c.in_ok-b-2.b c.in_ok-b-3.b waits last c.in_ok-b-2.ensures
    c.in_ok-b-3.ensures)
