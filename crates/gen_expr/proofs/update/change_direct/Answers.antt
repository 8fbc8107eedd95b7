use Rattle.std.proofs.Common.{◌++◌}
use Rattle.gen_sim.specs.DirectCode.{direct_load, direct_store}
use Rattle.gen_expr.specs.DirectView.{direct_view}
use Rattle.gen_expr.specs.RightView.{right_view}
use Rattle.gen_expr.specs.TargetCode.{change_part}
use Rattle.gen_expr.proofs.GrowLaws.{then_grow}
use Rattle.gen_expr.proofs.update.change_direct.Goals as goal

pub returns : goal.returns
returns c =
    let d = direct_view c.args.d in
    let change = change_part c.args.o (right_view c.args.how) in
    then_grow c.args.b c.in_ok-b.b c.in_ok-b-3.b (direct_load d) (change ++ direct_store d)
    c.in_ok-b.ensures
    (then_grow c.in_ok-b.b c.in_ok-b-2.b c.in_ok-b-3.b change (direct_store d)
    c.in_ok-b-2.ensures c.in_ok-b-3.ensures)
