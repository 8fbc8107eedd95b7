use Rattle.check_source.specs.GroupsView.{groups_view}
use Rattle.check_functions.specs.Group.{bodies_and_params}
use Rattle.check_functions.proofs.FindsLaws.{FindsSoFar}
use Rattle.check_functions.proofs.group.all_groups.Given as goal

abbrev pub invariant-loop-it : goal.invariant-loop-it
invariant-loop-it l = FindsSoFar bodies_and_params (groups_view l.groups) l.it-index
