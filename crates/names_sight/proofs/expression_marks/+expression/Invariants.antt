use Rattle.pawn_tree.specs.View.{arg_view, link_view}
use Rattle.names_rules.specs.ExpressionMarks.{arg_marks, link_marks}
use Rattle.names_rules.specs.Passed.{Passed}
use Rattle.names_sight.specs.MarkView.{marks_view}
use Rattle.names_sight.proofs.expression_marks.+expression.Given as goal

abbrev pub invariant-args_marks-loop-i : goal.invariant-args_marks-loop-i
invariant-args_marks-loop-i l =
    Passed arg_marks arg_view l.items (marks_view l.initial.out) l.i (marks_view l.out)

abbrev pub invariant-links_marks-loop-i : goal.invariant-links_marks-loop-i
invariant-links_marks-loop-i l =
    Passed link_marks link_view l.items (marks_view l.initial.out) l.i (marks_view l.out)
