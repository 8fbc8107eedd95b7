use Rattle.std.proofs.Common.{◌≡◌, map, drop}
use Rattle.check_source.specs.Distinct.{Nothing, distinct_view, bodies_distinct}
use Rattle.check_source.specs.WrittenView.{written_view}
use Rattle.check_source.proofs.fallback.entry_fallback.Given as goal

abbrev pub invariant-loop-it : goal.invariant-loop-it
invariant-loop-it l =
    bodies_distinct (distinct_view l.found) (map written_view (drop l.it-index l.bodies))
    ≡ bodies_distinct Nothing (map written_view l.bodies)
