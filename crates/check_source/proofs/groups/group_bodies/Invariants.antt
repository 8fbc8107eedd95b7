use Rattle.std.proofs.Common.{◌≡◌, [], map, drop}
use Rattle.types_rules.specs.Groups as spec
use Rattle.check_source.specs.WrittenView.{written_view}
use Rattle.check_source.specs.GroupsView.{groups_view}
use Rattle.check_source.proofs.groups.group_bodies.Given as goal

abbrev pub invariant-loop-it : goal.invariant-loop-it
invariant-loop-it l =
    spec.grouped l.tags l.fallback (groups_view l.groups)
    (map written_view (drop l.it-index l.bodies))
    ≡ spec.grouped l.tags l.fallback [] (map written_view l.bodies)
