use Rattle.std.proofs.Common.{option_map}
use Rattle.check_nodes.specs.ContextView.{around_view}
use Rattle.check_nodes.specs.Scopes.{scope_view}
use Rattle.check_expressions.specs.ValueViews.{first_view}
use Rattle.check_expressions.proofs.BehindLaws.{Joined, all_cells}
use Rattle.check_expressions.proofs.firsts.cells_of_list.Given as goal

abbrev pub invariant-loop-i : goal.invariant-loop-i
invariant-loop-i l =
    Joined (all_cells (around_view l.here.cx.now) (scope_view l.here.scopes.now) l.here.at l.tag)
    l.items l.i
    (option_map first_view l.done)
