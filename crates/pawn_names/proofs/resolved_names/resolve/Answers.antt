use Rattle.std.proofs.Common.{ap, subst, ◌∙◌}
use Rattle.pawn_tree.specs.View.{tree_view}
use Rattle.names_rules.specs.Around.{around_of}
use Rattle.names_sight.specs.MarkView.{marks_view}
use Rattle.pawn_names.specs.Resolved.{AreResolved}
use Rattle.pawn_names.proofs.ResolvedLaws.{resolved}
use Rattle.pawn_names.proofs.resolved_names.resolve.Goals as goal

pub returns : goal.returns
returns c =
    resolved (tree_view c.args.tree.now) c.in_ok-context.context c.resolve_marks.result
    c.in_ok-context.ensures
    (subst (λ m. AreResolved (around_of (tree_view c.args.tree.now)) m c.resolve_marks.result)
    (ap marks_view c.as_slice-2.ensures ∙ c.in_ok-marks.ensures)
    (c.resolve_marks.ensures (around_of (tree_view c.args.tree.now))
    c.in_ok-context.ensures.begins))
