use Rattle.check_nodes.specs.ContextView.{around_view}
use Rattle.check_expressions.specs.JudgedView.{judged_view}
use Rattle.check_locals.specs.PointView.{point_view}
use Rattle.check_locals.specs.Tells.{told}
use Rattle.check_locals.proofs.VarLaws.{PartsSo}
use Rattle.check_locals.proofs.judged_variables.judge_behind.Given as goal

abbrev pub invariant-loop-i : goal.invariant-loop-i
invariant-loop-i l =
    PartsSo (around_view l.here.cx.now) l.here.at l.here.kind l.here.constant
    (point_view l.initial.point)
    (point_view l.point)
    l.vars l.i (told judged_view l.done)
