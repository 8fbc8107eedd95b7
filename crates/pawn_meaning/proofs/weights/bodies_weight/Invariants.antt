use Rattle.pawn_meaning.specs.View.{stmt_view}
use Rattle.pawn_meaning.specs.Weight.{stmt_weight, alone_in}
use Rattle.pawn_meaning.proofs.Walks.{IsSum}
use Rattle.pawn_meaning.proofs.weights.bodies_weight.Given as goal

abbrev pub invariant-loop-i : goal.invariant-loop-i
invariant-loop-i l =
    IsSum (λ body. stmt_weight (alone_in l.lean) (stmt_view body.stmt)) l.items l.i l.sum
