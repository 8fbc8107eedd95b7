use Rattle.std.proofs.Common.{◌≡◌, List, ◌∷◌, ◌++◌, [], length, ap, ◌∙◌, arith}
use Rattle.types_rules.specs.Groups as spec
use Rattle.check_source.specs.KeyView.{key_view}
use Rattle.check_source.specs.declared.groups.Group.{Group}
use Rattle.check_source.specs.GroupsView.{groups_view}
use Rattle.check_source.proofs.GroupLaws.{numbered_push}
use Rattle.check_source.proofs.groups.Groups.push.Goals as goal

pub invariant_of-self-2 : goal.invariant_of-self-2
invariant_of-self-2 c =
    let number : c.in-Ok.number ≡ length c.self.inside.items.items =
    omega (arith, c.in-Ok.ensures) in
    numbered_push c.self.inside.items.items c.push-2.new.self.items c.self.inside.tables
    c.insert.new.self
    (record { key = c.args.key; bodies = c.push.new.self }) c.in-Ok.number c.self.invariant
    (ap (λ (all : List Group). spec.number_of (groups_view all) (key_view c.args.key))
    c.self.view_is ∙ c.requires)
    number c.in_ok-insert.ensures.ok
    (c.in-Ok-push.ensures.items ∙ ap
    (λ (items : List Group). items ++ record { key = c.args.key; bodies = c.push.new.self }
    ∷ []) c.reserve.ensures.items)
