use Rattle.std.proofs.Common.{◌≡◌, ◌++◌, map, drop}
use Rattle.check_source.specs.WrittenView.{written_view}
use Rattle.check_source.specs.Adds.{bytes_of}
use Rattle.check_source.specs.CalledView.{called_by}
use Rattle.check_source.proofs.called.all_called.Given as goal

abbrev pub invariant-loop-it : goal.invariant-loop-it
invariant-loop-it l =
    bytes_of l.list ++ called_by (map written_view (drop l.it-index l.bodies))
    ≡ called_by (map written_view l.bodies)
