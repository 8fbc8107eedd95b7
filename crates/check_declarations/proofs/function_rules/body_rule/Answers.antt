use Rattle.std.proofs.Common.{ap, ◌∙◌}
use Rattle.check_nodes.specs.Scopes.{scope_view}
use Rattle.check_declarations.proofs.PlaceLaws.{body_left, body_objects}
use Rattle.check_declarations.proofs.function_rules.body_rule.Goals as goal

pub returns-clause-scope : goal.returns-clause-scope
returns-clause-scope c =
    ap scope_view c.leave.ensures.scopes ∙ body_left _ _ _ _ c.in_ok-body.ensures.behind

pub returns-clause-objects : goal.returns-clause-objects
returns-clause-objects c =
    c.leave.ensures.objects ∙ body_objects _ _ _ _ c.in_ok-body.ensures.behind
