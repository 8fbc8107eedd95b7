use Rattle.std.proofs.Common.{ap, ◌∙◌}
use Rattle.pawn_tree.specs.View.{tree_view}
use Rattle.names_rules.specs.Around.{tags_of}
use Rattle.pawn_names.proofs.ResolvedLaws.{once_is}
use Rattle.pawn_names.proofs.resolved_names.context.Goals as goal

pub returns : goal.returns
returns c =
    once_is (tree_view c.args.tree.now) _
    (c.in_ok-tags.ensures ∙ ap tags_of c.requires) c.in_ok-operators.ensures
    c.in_ok-names.ensures
    c.new.ensures c.new-2.ensures
