use Rattle.std.proofs.Common.{◌≡◌, ◌++◌, map, drop}
use Rattle.std.specs.Prelude.{filter, filter_map}
use Rattle.types_rules.specs.Groups.{Written}
use Rattle.types_rules.specs.Functions as spec
use Rattle.check_source.specs.WrittenView.{written_view}
use Rattle.check_functions.proofs.clauses.collect.Given as goal

abbrev pub invariant-loop-it : goal.invariant-loop-it
invariant-loop-it l =
    (l.all.clauses ++ filter_map spec.clause_of (map written_view (drop l.it-index l.bodies))
    ≡ filter_map spec.clause_of (map written_view l.bodies))
    × (l.all.places ++ map (λ (it : Written). it.at)
    (filter spec.has_classifier (map written_view (drop l.it-index l.bodies)))
    ≡ map (λ (it : Written). it.at) (filter spec.has_classifier (map written_view l.bodies)))
