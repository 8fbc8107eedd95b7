use Rattle.std.proofs.Common.{◌≡◌}
use Rattle.pawn_tree.specs.View.{var_view}
use Rattle.check_nodes.specs.ContextView.{around_view}
use Rattle.check_locals.specs.PointView.{point_view}
use Rattle.check_locals.specs.Tells.{told}
use Rattle.check_declarations.specs.DoneView.{done_view}
use Rattle.check_declarations.specs.KnownView.{source_view}
use Rattle.check_declarations.proofs.DeclLaws.{Told, one_global, past_global, all_globals}
use Rattle.check_declarations.proofs.DeclLaws.{end_globals}
use Rattle.check_declarations.proofs.globals.globals.Given as goal

abbrev pub invariant-loop-i : goal.invariant-loop-i
invariant-loop-i l =
    Told var_view (one_global (source_view l.known) (around_view l.known.cx.now) l.at l.constant)
    (past_global (source_view l.known) (around_view l.known.cx.now) l.at l.constant)
    (all_globals (source_view l.known) (around_view l.known.cx.now) l.at l.constant)
    (end_globals (source_view l.known) (around_view l.known.cx.now) l.at l.constant)
    (point_view l.fn.point) l.vars l.i (point_view l.point) (told done_view l.done)
