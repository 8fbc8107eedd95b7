use Rattle.pawn_meaning.specs.View.{expr_view}
use Rattle.gen_expr.specs.Standing.{scope_of}
use Rattle.gen_expr.specs.TestView.{test_view}
use Rattle.gen_stmt.proofs.BranchLaws.{told_grown}
use Rattle.gen_stmt.proofs.conditions.jump_by_test.Goals as goal

pub returns : goal.returns
returns c =
    told_grown (scope_of c.args.frame.now) c.args.when (expr_view c.args.e.now) c.args.b
    c.in_ok-code.code (test_view c.in_ok-code.test) (test_view c.test_where.result)
    c.jump_out_where.result c.in_ok-code.ensures.code c.in_ok-code.ensures.test
    c.test_where.ensures c.jump_out_where.ensures
