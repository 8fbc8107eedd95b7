use Rattle.pawn_tree.specs.View.{stmt_view, case_view}
use Rattle.types_rules.specs.CalledIn.{called_in, called_in_case}
use Rattle.check_source.specs.Adds.{AddsSoFar}
use Rattle.check_source.proofs.statement.+statement.Given as goal

abbrev pub invariant-in_stmts-loop-i : goal.invariant-in_stmts-loop-i
invariant-in_stmts-loop-i l =
    AddsSoFar (λ x. called_in (stmt_view x)) l.items l.initial.out l.i l.out

abbrev pub invariant-in_cases-loop-i : goal.invariant-in_cases-loop-i
invariant-in_cases-loop-i l =
    AddsSoFar (λ x. called_in_case (case_view x)) l.items l.initial.out l.i l.out
