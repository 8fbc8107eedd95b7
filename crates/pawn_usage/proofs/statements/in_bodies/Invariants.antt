use Rattle.pawn_meaning.specs.View.{stmt_view, program_view}
use Rattle.pawn_usage.specs.Called.{called_by}
use Rattle.pawn_usage.specs.Adds.{AddsSoFar}
use Rattle.pawn_usage.proofs.statements.in_bodies.Given as goal

abbrev pub invariant-loop-i : goal.invariant-loop-i
invariant-loop-i l =
    AddsSoFar (λ x. called_by (program_view l.program) (stmt_view x.stmt)) l.items l.initial.out
    l.i l.out
