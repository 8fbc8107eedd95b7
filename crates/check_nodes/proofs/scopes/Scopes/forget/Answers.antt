use Rattle.std.proofs.Common.{ap, ◌∙◌}
use Rattle.check_nodes.specs.Scopes.{without}
use Rattle.check_nodes.proofs.IndexLaws.{without_none, without_more}
use Rattle.check_nodes.proofs.scopes.Scopes.forget.Goals as goal

pub loop-i-init : goal.loop-i-init
loop-i-init c = without_none _

pub loop-i-preserved : goal.loop-i-preserved
loop-i-preserved c = c.forget_last.ensures ∙ ap (without 1) c.loop-i.invariant ∙ without_more _ _
