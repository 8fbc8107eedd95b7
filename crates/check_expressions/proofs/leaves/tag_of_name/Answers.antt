use Rattle.std.proofs.Common.{Option, subst}
use Rattle.pawn_cells.specs.Cells.{cell_of}
use Rattle.pawn_tags.specs.Tags.{untagged}
use Rattle.names_rules.specs.Verdict.{Stands, after}
use Rattle.types_rules.specs.NamesAndNumbers.{tag_of_meaning, constant_value}
use Rattle.types_rules.specs.Scope.{Meaning}
use Rattle.check_nodes.specs.PartAnswers.{PartAnswers}
use Rattle.check_nodes.specs.TypedView.{typed_view}
use Rattle.check_expressions.proofs.leaves.tag_of_name.Goals as goal

pub returns : goal.returns
returns c =
    let P : Option Meaning → Type 0 =
    λ means. PartAnswers typed_view
    (after (tag_of_meaning c.args.at means)
    (λ tag. Stands (constant_value c.args.at (cell_of tag) untagged)))
    c.tag_in_sight.result in
    subst P c.sight_of-sight.ensures c.tag_in_sight.ensures
