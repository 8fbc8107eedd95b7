use Rattle.std.proofs.Common.{◌≡◌, map, drop}
use Rattle.std.specs.List.{list_any}
use Rattle.types_rules.specs.Functions as spec
use Rattle.check_source.specs.WrittenView.{written_view}
use Rattle.check_functions.proofs.bodies.some_classified.Given as goal

abbrev pub invariant-loop-it : goal.invariant-loop-it
invariant-loop-it l =
    list_any spec.has_classifier (map written_view (drop l.it-index l.bodies))
    ≡ list_any spec.has_classifier (map written_view l.bodies)
