use Rattle.pawn_tree.specs.View.{stmt_view, case_view}
use Rattle.names_rules.specs.StatementMarks.{stmt_marks, case_marks}
use Rattle.names_rules.specs.Passed.{Passed}
use Rattle.names_sight.specs.MarkView.{marks_view}
use Rattle.names_sight.proofs.statement.+statement.Given as goal

abbrev pub invariant-stmts_marks-loop-i : goal.invariant-stmts_marks-loop-i
invariant-stmts_marks-loop-i l =
    Passed stmt_marks stmt_view l.items (marks_view l.initial.out) l.i (marks_view l.out)

abbrev pub invariant-cases_marks-loop-i : goal.invariant-cases_marks-loop-i
invariant-cases_marks-loop-i l =
    Passed case_marks case_view l.items (marks_view l.initial.out) l.i (marks_view l.out)
