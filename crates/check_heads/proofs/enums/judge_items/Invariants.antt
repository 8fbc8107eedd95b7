use Rattle.std.proofs.Common.{◌≡◌}
use Rattle.pawn_tree.specs.View.{item_view}
use Rattle.types_rules.specs.Enums.{nothing_counted}
use Rattle.check_nodes.specs.ContextView.{around_view}
use Rattle.check_nodes.specs.Scopes.{scope_view, without}
use Rattle.check_heads.specs.SoFar.{parts_view}
use Rattle.check_heads.proofs.FoldLaws.{Folded}
use Rattle.check_heads.specs.Counting.{counted}
use Rattle.check_heads.proofs.EnumLaws.{parts_fold}
use Rattle.check_heads.proofs.enums.judge_items.Given as goal

abbrev pub invariant-loop-i : goal.invariant-loop-i
invariant-loop-i l =
    Folded (parts_fold (around_view l.cx) l.at l.tag) item_view
    (nothing_counted (scope_view l.fn.scopes)) l.items l.i
    (counted (scope_view l.scopes) l.next) (parts_view l.fell)
    × (without l.i l.scopes ≡ l.fn.scopes)
