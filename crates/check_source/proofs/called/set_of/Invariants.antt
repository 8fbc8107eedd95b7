use Rattle.std.proofs.Common.{◌≡◌, [], drop}
use Rattle.check_source.specs.Adds.{bytes_of}
use Rattle.check_source.specs.CalledView.{with_names}
use Rattle.check_source.proofs.called.set_of.Given as goal

abbrev pub invariant-loop-name : goal.invariant-loop-name
invariant-loop-name l =
    with_names l.names (bytes_of (drop l.name-index l.list)) ≡ with_names [] (bytes_of l.list)
