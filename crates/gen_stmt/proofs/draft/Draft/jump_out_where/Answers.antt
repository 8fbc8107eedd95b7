use Rattle.std.proofs.Common.{ap}
use Rattle.gen_sim.specs.TestCode.{test_op}
use Rattle.gen_expr.specs.TestView.{test_view}
use Rattle.gen_expr.proofs.JumpLaws.{test_wide}
use Rattle.gen_stmt.proofs.GrownLaws.{hole_grown}
use Rattle.gen_stmt.proofs.draft.Draft.jump_out_where.Goals as goal

pub returns : goal.returns
returns c =
    let t = test_view c.args.test in
    hole_grown (test_op t) (test_wide t) c.args.self _ c.in_ok-code.code c.in_ok-at.at c.args.exit
    c.in_ok-code.ensures c.in_ok-at.ensures
    (ap (λ holes. record { code = c.in_ok-code.code; holes = holes }) c.in_ok-push.ensures.ok)
