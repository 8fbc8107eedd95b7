use Rattle.std.proofs.Common.{map, option_map}
use Rattle.check_nodes.specs.ContextView.{around_view, head_view}
use Rattle.check_locals.specs.PointView.{point_view}
use Rattle.check_declarations.proofs.DeclLaws.{Headed}
use Rattle.check_declarations.proofs.paths.heads.Given as goal

abbrev pub invariant-loop-i : goal.invariant-loop-i
invariant-loop-i l =
    Headed (around_view l.cx) (point_view l.fn.point) l.decls l.i (point_view l.point)
    (map (option_map head_view) l.heads)
