use Rattle.std.proofs.Common.{Option, subst}
use Rattle.types_rules.specs.Scope.{Meaning}
use Rattle.types_rules.specs.Calls.{callee_rule}
use Rattle.check_nodes.specs.PartAnswers.{PartAnswers}
use Rattle.check_nodes.specs.ContextView.{around_view}
use Rattle.check_calls.specs.CalleeView.{callee_view}
use Rattle.check_expressions.proofs.leaves.callee_of.Goals as goal

pub returns : goal.returns
returns c =
    let P : Option Meaning → Type 0 =
    λ means. PartAnswers callee_view (callee_rule (around_view c.args.cx.now) c.args.at means)
    c.callee_in_sight.result in
    subst P c.sight_of-sight.ensures c.callee_in_sight.ensures
