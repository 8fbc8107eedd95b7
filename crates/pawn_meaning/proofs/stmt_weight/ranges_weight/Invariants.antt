use Rattle.std.proofs.Common.{◌*◌}
use Rattle.pawn_meaning.specs.Weight.{values_in}
use Rattle.pawn_meaning.proofs.Walks.{IsSum}
use Rattle.pawn_meaning.proofs.stmt_weight.ranges_weight.Given as goal

abbrev pub invariant-loop-i : goal.invariant-loop-i
invariant-loop-i l = IsSum (λ range. 2 * values_in range) l.items l.i l.sum
