use Rattle.pawn_tree.specs.View.{item_view}
use Rattle.types_rules.specs.Enums.{nothing_counted}
use Rattle.check_nodes.specs.ContextView.{around_view}
use Rattle.check_nodes.specs.Scopes.{scope_view}
use Rattle.check_heads.proofs.FoldLaws.{Folded}
use Rattle.check_heads.specs.Counting.{counted, warnings_view}
use Rattle.check_heads.proofs.EnumLaws.{warned_fold}
use Rattle.check_heads.proofs.enums.items_in.Given as goal

abbrev pub invariant-loop-i : goal.invariant-loop-i
invariant-loop-i l =
    Folded (warned_fold (around_view l.cx) l.at l.tag) item_view
    (nothing_counted (scope_view l.fn.scopes)) l.items l.i
    (counted (scope_view l.scopes) l.next) (warnings_view l.done)
