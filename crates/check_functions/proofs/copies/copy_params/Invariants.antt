use Rattle.std.proofs.Common.{◌≡◌, ◌++◌, drop}
use Rattle.check_functions.proofs.copies.copy_params.Given as goal

abbrev pub invariant-loop-it : goal.invariant-loop-it
invariant-loop-it l = l.copy ++ drop l.it-index l.params ≡ l.params
