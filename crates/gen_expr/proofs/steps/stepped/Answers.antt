use Rattle.std.proofs.Common.{w32, FitsSigned, [], ◌∷◌, ◌++◌}
use Rattle.std.proofs.lemmas.Int.{to_z-of_z}
use Rattle.pawn_meaning.specs.View.{scalar_view}
use Rattle.amx_ops.specs.declared.op.Op.TheVariants as op
use Rattle.gen_sim.specs.SimpleCode.{alone}
use Rattle.gen_sim.specs.AccessCode.{load_code, stepped_code}
use Rattle.gen_expr.proofs.GrowLaws.{then_grow}
use Rattle.gen_expr.proofs.steps.stepped.Goals as goal

pub returns : goal.returns
returns c =
    let p = scalar_view c.args.place.now in
    let f : FitsSigned w32 c.args.delta = c.ranges.delta in
    let last = stepped_code p c.args.delta c.args.prefix in
    then_grow c.args.b c.in_ok-b.b c.in_ok-b-3.b (alone op.MoveAlt ∷ [])
    (load_code p ++ last) c.in_ok-b.ensures
    (then_grow c.in_ok-b.b c.in_ok-b-2.b c.in_ok-b-3.b (load_code p) last c.in_ok-b-2.ensures
    (rw (to_z-of_z w32 c.args.delta f) at c.in_ok-b-3.ensures))
