use Rattle.pawn_meaning.specs.View.{function_view}
use Rattle.pawn_meaning.specs.Weight.{function_weight, alone_in}
use Rattle.pawn_meaning.proofs.Walks.{IsSum}
use Rattle.pawn_meaning.proofs.weights.program_weight.Given as goal

abbrev pub invariant-loop-i : goal.invariant-loop-i
invariant-loop-i l =
    IsSum (λ it. function_weight (alone_in l.lean) (function_view it)) l.items l.i l.sum
