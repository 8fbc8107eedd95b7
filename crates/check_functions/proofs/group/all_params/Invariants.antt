use Rattle.std.proofs.Common.{map}
use Rattle.check_source.specs.WrittenView.{written_view}
use Rattle.check_functions.specs.Group.{params_by}
use Rattle.check_functions.proofs.FindsLaws.{FindsSoFar}
use Rattle.check_functions.proofs.group.all_params.Given as goal

abbrev pub invariant-loop-it : goal.invariant-loop-it
invariant-loop-it l = FindsSoFar (params_by l.none) (map written_view l.bodies) l.it-index
