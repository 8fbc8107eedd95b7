use Rattle.pawn_meaning.specs.View.{expr_view}
use Rattle.gen_expr.specs.Standing.{scope_of}
use Rattle.gen_expr.proofs.MeansLaws.{means_so}
use Rattle.gen_expr.proofs.emitter.expression.Goals as goal

pub returns-clause-means : goal.returns-clause-means
returns-clause-means c =
    means_so c.code_means.ensures (scope_of c.args.frame.now)
    (expr_view c.args.e.now) c.args.b c.in_ok-done.done c.in_ok-done.ensures
