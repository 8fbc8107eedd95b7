use Rattle.pawn_verdict.specs.SignViews.{between_view}
use Rattle.check_nodes.specs.ContextView.{around_view}
use Rattle.check_nodes.specs.TypedView.{typed_view}
use Rattle.check_calls.proofs.UpdateSignLaws.{updates_by}
use Rattle.check_calls.proofs.assignments.assign.Goals as goal

pub returns-in_default : goal.returns-in_default
returns-in_default c =
    updates_by (around_view c.args.cx.now) c.args.at c.args.sign (typed_view c.args.x)
    (typed_view c.args.y) (between_view c.updater_of.result) c.update_by.result
    c.in_default.not-Assign
    c.updater_of.ensures c.update_by.ensures
