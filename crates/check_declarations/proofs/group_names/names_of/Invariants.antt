use Rattle.std.proofs.Common.{◌≡◌, ◌++◌, map, drop}
use Rattle.types_rules.specs.Publics.{group_name}
use Rattle.check_source.specs.declared.groups.Group.{Group}
use Rattle.check_source.specs.GroupsView.{group_view}
use Rattle.check_declarations.proofs.group_names.names_of.Given as goal

abbrev pub invariant-loop-group : goal.invariant-loop-group
invariant-loop-group l =
    l.list ++ map (λ (it : Group). group_name (group_view it).bodies) (drop l.group-index l.groups)
    ≡ map (λ (it : Group). group_name (group_view it).bodies) l.groups
