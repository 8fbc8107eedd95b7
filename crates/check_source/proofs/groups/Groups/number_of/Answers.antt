use Rattle.std.proofs.Common.{ap, ◌∙◌}
use Rattle.types_rules.specs.Groups as spec
use Rattle.check_source.specs.KeyView.{key_view}
use Rattle.check_source.specs.GroupsView.{groups_view}
use Rattle.check_source.proofs.groups.Groups.number_of.Goals as goal

pub returns : goal.returns
returns c =
    c.find.ensures ∙ c.self.invariant.numbers (key_view c.args.key)
    ∙ ap (λ all. spec.number_of (groups_view all) (key_view c.args.key)) c.self.view_is
