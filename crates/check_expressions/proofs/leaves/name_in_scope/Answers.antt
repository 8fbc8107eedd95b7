use Rattle.std.proofs.Common.{Option, subst}
use Rattle.types_rules.specs.NamesAndNumbers.{name_rule}
use Rattle.types_rules.specs.Scope.{Meaning}
use Rattle.check_nodes.specs.PartAnswers.{PartAnswers}
use Rattle.check_nodes.specs.TypedView.{typed_view}
use Rattle.check_expressions.proofs.leaves.name_in_scope.Goals as goal

pub returns : goal.returns
returns c =
    let P : Option Meaning → Type 0 =
    λ means. PartAnswers typed_view (name_rule c.args.at means) c.name_in_sight.result in
    subst P c.sight_of-sight.ensures c.name_in_sight.ensures
