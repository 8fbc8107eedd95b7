use Rattle.std.proofs.Common.{◌≡◌, [], map, drop}
use Rattle.types_rules.specs.Automata as spec
use Rattle.check_source.specs.AutomataView.{automata_view}
use Rattle.check_source.specs.WrittenView.{written_view}
use Rattle.check_source.specs.GroupsView.{groups_view}
use Rattle.check_source.proofs.classified.classified.Given as goal

abbrev pub invariant-loop-it : goal.invariant-loop-it
invariant-loop-it l =
    spec.classified l.known.tags.now l.known.fallback.now (groups_view l.known.groups.now)
    (automata_view l.automata)
    (map written_view (drop l.it-index l.bodies))
    ≡ spec.classified l.known.tags.now l.known.fallback.now (groups_view l.known.groups.now) []
    (map written_view l.bodies)
