use Rattle.pawn_usage.specs.Called.{at_most_one}
use Rattle.pawn_usage.proofs.GraphLaws.{IsMapped}
use Rattle.pawn_usage.proofs.measure.starts.Given as goal

abbrev pub invariant-loop-i : goal.invariant-loop-i
invariant-loop-i l =
    IsMapped (λ it. it.function) (at_most_one l.program.entry) l.publics l.i l.starts
