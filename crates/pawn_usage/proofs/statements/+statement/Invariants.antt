use Rattle.pawn_meaning.specs.View.{stmt_view, program_view}
use Rattle.pawn_usage.specs.Called.{called_by}
use Rattle.pawn_usage.specs.Adds.{AddsSoFar}
use Rattle.pawn_usage.proofs.statements.+statement.Given as goal

abbrev pub invariant-in_stmts-loop-i : goal.invariant-in_stmts-loop-i
invariant-in_stmts-loop-i l =
    AddsSoFar (λ x. called_by (program_view l.program) (stmt_view x)) l.items l.initial.out l.i
    l.out

abbrev pub invariant-in_cases-loop-i : goal.invariant-in_cases-loop-i
invariant-in_cases-loop-i l =
    AddsSoFar (λ x. called_by (program_view l.program) (stmt_view x.stmt)) l.items l.initial.out
    l.i l.out
