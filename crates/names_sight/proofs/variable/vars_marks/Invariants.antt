use Rattle.pawn_tree.specs.View.{var_view}
use Rattle.names_rules.specs.VariableMarks.{var_marks}
use Rattle.names_rules.specs.Passed.{Passed}
use Rattle.names_sight.specs.MarkView.{marks_view}
use Rattle.names_sight.proofs.variable.vars_marks.Given as goal

abbrev pub invariant-loop-i : goal.invariant-loop-i
invariant-loop-i l =
    Passed (var_marks l.fn.place l.fn.outside) var_view l.items (marks_view l.initial.out) l.i
    (marks_view l.out)
