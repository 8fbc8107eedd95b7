use Rattle.std.proofs.Common.{◌≡◌, map, drop}
use Rattle.check_source.specs.WrittenView.{written_view}
use Rattle.check_functions.specs.Mixed.{any_mixed}
use Rattle.check_functions.proofs.group.some_mixed.Given as goal

abbrev pub invariant-loop-it : goal.invariant-loop-it
invariant-loop-it l =
    any_mixed (map written_view (drop l.it-index l.bodies)) ≡ any_mixed (map written_view l.bodies)
