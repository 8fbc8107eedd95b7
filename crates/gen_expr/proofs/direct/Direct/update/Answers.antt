use Rattle.std.proofs.Common.{[], ◌∷◌, ◌++◌}
use Rattle.gen_sim.specs.SimpleCode.{taking, operator_code}
use Rattle.gen_sim.specs.DirectCode.{direct_store}
use Rattle.gen_expr.specs.DirectView.{direct_view}
use Rattle.gen_expr.proofs.GrowLaws.{then_grow}
use Rattle.gen_expr.proofs.direct.Direct.update.Goals as goal

pub returns : goal.returns
returns c =
    let d = direct_view c.args.self in
    let change = operator_code c.args.o in
    then_grow c.args.b c.in_ok-b.b c.in_ok-b-3.b (taking d.loads_alt d.operand ∷ [])
    (change ++ direct_store d) c.in_ok-b.ensures
    (then_grow c.in_ok-b.b c.in_ok-b-2.b c.in_ok-b-3.b change (direct_store d)
    c.in_ok-b-2.ensures c.in_ok-b-3.ensures)
