use Rattle.check_nodes.specs.ContextView.{around_view}
use Rattle.check_locals.specs.PointView.{point_view}
use Rattle.check_declarations.proofs.DeclLaws.{Placed}
use Rattle.check_declarations.proofs.globals.declare_vars.Given as goal

abbrev pub invariant-loop-i : goal.invariant-loop-i
invariant-loop-i l =
    Placed (around_view l.cx) l.at l.constant (point_view l.fn.point) l.vars l.i
    (point_view l.point)
