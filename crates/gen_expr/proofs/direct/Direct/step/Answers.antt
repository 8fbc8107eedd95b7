use Rattle.std.proofs.Common.{[], ◌∷◌, w32, FitsSigned}
use Rattle.std.proofs.lemmas.Int.{to_z-of_z}
use Rattle.amx_ops.specs.declared.op.Op.TheVariants as op
use Rattle.gen_sim.specs.SimpleCode.{taking}
use Rattle.gen_sim.specs.DirectCode.{direct_load, stepped_back}
use Rattle.gen_expr.specs.DirectView.{direct_view}
use Rattle.gen_expr.proofs.GrowLaws.{then_grow}
use Rattle.gen_expr.proofs.direct.Direct.step.Goals as goal

pub returns : goal.returns
returns c =
    let d = direct_view c.args.self in
    let delta = c.args.delta in
    let f : FitsSigned w32 delta = c.ranges.delta in
    let back = stepped_back d delta c.args.prefix in
    then_grow c.args.b c.in_ok-b.b c.in_ok-b-3.b (direct_load d) (taking op.AddC delta ∷ back)
    c.in_ok-b.ensures
    (then_grow c.in_ok-b.b c.in_ok-b-2.b c.in_ok-b-3.b (taking op.AddC delta ∷ []) back
    (rw (to_z-of_z w32 delta f) at c.in_ok-b-2.ensures)
    (rw (to_z-of_z w32 delta f) at c.in_ok-b-3.ensures))
