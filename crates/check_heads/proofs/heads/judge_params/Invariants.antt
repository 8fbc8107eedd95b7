use Rattle.std.proofs.Common.{◌≡◌}
use Rattle.pawn_tree.specs.View.{param_view}
use Rattle.check_nodes.specs.ContextView.{around_view}
use Rattle.check_nodes.specs.Scopes.{scope_view}
use Rattle.check_heads.specs.SoFar.{parts_view}
use Rattle.check_heads.proofs.FoldLaws.{Folded}
use Rattle.check_heads.proofs.ParamLaws.{parts_fold}
use Rattle.check_heads.proofs.heads.judge_params.Given as goal

abbrev pub invariant-loop-i : goal.invariant-loop-i
invariant-loop-i l =
    Folded (parts_fold (around_view l.cx) l.at) param_view (scope_view l.fn.scopes, 0) l.params l.i
    (scope_view l.scopes, l.i) (parts_view l.fell)
    × (l.scopes.outer ≡ l.fn.scopes.outer)
