use Rattle.std.proofs.Common.{sym, ap, ◌∙◌}
use Rattle.pawn_meaning.specs.View.{expr_view}
use Rattle.gen_expr.specs.Standing.{scope_of}
use Rattle.gen_expr.specs.RightView.{right_view}
use Rattle.gen_expr.specs.TestView.{test_view, perhaps_test}
use Rattle.gen_expr.proofs.ConditionLaws.{pair_brought}
use Rattle.gen_expr.proofs.conditions.pair.Goals as goal

pub returns-in_ok-brought-in-None-clause-code : goal.returns-in_ok-brought-in-None-clause-code
returns-in_ok-brought-in-None-clause-code c =
    pair_brought (scope_of c.args.frame.now) (test_view c.args.t) (expr_view c.args.x.now)
    (expr_view c.args.y.now) (right_view c.in_ok-how.how) c.args.b c.in_ok-left.left
    c.in_ok-brought-in-None.brought c.in_ok-how.ensures
    (sym c.zero_test.ensures ∙ ap perhaps_test c.in-None.is) c.in_ok-left.ensures
    c.in_ok-brought-in-None.ensures
