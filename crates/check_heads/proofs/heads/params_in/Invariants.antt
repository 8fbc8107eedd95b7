use Rattle.std.proofs.Common.{◌≡◌}
use Rattle.pawn_tree.specs.View.{param_view}
use Rattle.check_nodes.specs.ContextView.{around_view}
use Rattle.check_nodes.specs.Scopes.{scope_view}
use Rattle.check_heads.specs.SoFar.{progress_view}
use Rattle.check_heads.proofs.FoldLaws.{Folded}
use Rattle.check_heads.proofs.ParamLaws.{params_fold}
use Rattle.check_heads.proofs.heads.params_in.Given as goal

abbrev pub invariant-loop-i : goal.invariant-loop-i
invariant-loop-i l =
    Folded (params_fold (around_view l.cx) l.at) param_view (scope_view l.fn.scopes, 0) l.params l.i
    (scope_view l.scopes, l.i) (progress_view l.so_far)
    × (l.scopes.outer ≡ l.fn.scopes.outer)
