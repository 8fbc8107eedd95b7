use Rattle.check_functions.proofs.SameLaws.{SameSoFar}
use Rattle.check_functions.proofs.same_heads.same_params.Given as goal

abbrev pub invariant-loop-i : goal.invariant-loop-i
invariant-loop-i l = SameSoFar l.x l.y l.i
