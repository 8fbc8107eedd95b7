use Rattle.check_nodes.specs.ContextView.{around_view}
use Rattle.check_nodes.specs.Scopes.{scope_view}
use Rattle.check_expressions.proofs.BesideLaws.{JudgedSoFar, all_dims}
use Rattle.check_expressions.proofs.judged_parts.judge_dims.Given as goal

abbrev pub invariant-loop-i : goal.invariant-loop-i
invariant-loop-i l =
    JudgedSoFar (all_dims (around_view l.cx) (scope_view l.scopes)) l.dims l.i l.stand
