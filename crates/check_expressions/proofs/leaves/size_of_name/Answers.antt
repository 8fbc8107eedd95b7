use Rattle.std.proofs.Common.{Option, pos, subst}
use Rattle.pawn_tags.specs.Tags.{untagged}
use Rattle.names_rules.specs.Verdict.{Stands, after}
use Rattle.types_rules.specs.NamesAndNumbers.{size_of, constant_value}
use Rattle.types_rules.specs.Scope.{Meaning}
use Rattle.check_nodes.specs.PartAnswers.{PartAnswers}
use Rattle.check_nodes.specs.TypedView.{typed_view}
use Rattle.check_expressions.proofs.leaves.size_of_name.Goals as goal

pub returns : goal.returns
returns c =
    let P : Option Meaning → Type 0 =
    λ means. PartAnswers typed_view
    (after (size_of c.args.at c.args.dimension means)
    (λ size. Stands (constant_value c.args.at (pos size) untagged)))
    c.size_in_sight.result in
    subst P c.sight_of-sight.ensures c.size_in_sight.ensures
