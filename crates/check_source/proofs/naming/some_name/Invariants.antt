use Rattle.std.proofs.Common.{◌≡◌, map, drop}
use Rattle.check_source.specs.WrittenView.{written_view}
use Rattle.check_source.specs.Naming.{bodies_name}
use Rattle.check_source.proofs.naming.some_name.Given as goal

abbrev pub invariant-loop-it : goal.invariant-loop-it
invariant-loop-it l =
    bodies_name (map written_view (drop l.it-index l.bodies))
    ≡ bodies_name (map written_view l.bodies)
