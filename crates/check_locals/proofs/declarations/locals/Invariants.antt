use Rattle.check_nodes.specs.ContextView.{around_view}
use Rattle.check_locals.specs.StoodView.{stood_view}
use Rattle.check_locals.specs.PointView.{point_view}
use Rattle.check_locals.specs.Tells.{told}
use Rattle.check_locals.proofs.VarLaws.{LocalsSo}
use Rattle.check_locals.proofs.declarations.locals.Given as goal

abbrev pub invariant-loop-i : goal.invariant-loop-i
invariant-loop-i l =
    LocalsSo (around_view l.here.cx.now) l.here.at l.here.kind l.here.constant
    (point_view l.initial.point)
    (point_view l.point)
    l.vars l.i (told stood_view l.done)
