use Rattle.std.proofs.Common.{◌≡◌, ◌++◌, map, drop}
use Rattle.check_source.specs.GroupsView.{groups_view}
use Rattle.check_source.specs.Naming.{group_names}
use Rattle.check_source.proofs.naming.naming.Given as goal

abbrev pub invariant-loop-group : goal.invariant-loop-group
invariant-loop-group l =
    l.naming.items ++ map group_names (groups_view (drop l.group-index l.groups))
    ≡ map group_names (groups_view l.groups)
