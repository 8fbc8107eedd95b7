use Rattle.std.proofs.Common.{◌≡◌, false, map, drop}
use Rattle.check_source.specs.WrittenView.{written_view}
use Rattle.check_functions.specs.Bare.{bodies_by}
use Rattle.check_functions.proofs.bodies.all_bodies.Given as goal

abbrev pub invariant-loop-it : goal.invariant-loop-it
invariant-loop-it l =
    bodies_by l.classified false (map written_view l.bodies)
    ≡ bodies_by l.classified l.again (map written_view (drop l.it-index l.bodies))
