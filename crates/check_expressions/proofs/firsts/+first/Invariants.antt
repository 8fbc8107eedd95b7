use Rattle.std.proofs.Common.{option_map}
use Rattle.pawn_arrays.specs.Sizes.{sizes}
use Rattle.check_nodes.specs.ContextView.{around_view}
use Rattle.check_nodes.specs.Scopes.{scope_view}
use Rattle.check_expressions.specs.ValueViews.{first_view}
use Rattle.check_expressions.proofs.BehindLaws.{Joined, all_rows}
use Rattle.check_expressions.proofs.firsts.+first.Given as goal

abbrev pub invariant-rows-loop-i : goal.invariant-rows-loop-i
invariant-rows-loop-i l =
    Joined (all_rows (around_view l.here.cx.now) (scope_view l.here.scopes.now) l.here.at l.tag
    (sizes l.part)) l.items l.i
    (option_map first_view l.done)
