use Rattle.check_nodes.specs.ContextView.{around_view}
use Rattle.check_nodes.specs.Scopes.{scope_view}
use Rattle.check_expressions.proofs.BesideLaws.{JudgedSoFar, all_inits}
use Rattle.check_expressions.proofs.judged_parts.+values.Given as goal

abbrev pub invariant-judge_inits-loop-i : goal.invariant-judge_inits-loop-i
invariant-judge_inits-loop-i l =
    JudgedSoFar (all_inits (around_view l.cx) (scope_view l.scopes)) l.items l.i l.stand
