use Rattle.pawn_tree.specs.View.{param_view}
use Rattle.names_rules.specs.TreeMarks.{param_marks}
use Rattle.names_rules.specs.Passed.{Passed}
use Rattle.names_sight.specs.MarkView.{marks_view}
use Rattle.names_sight.proofs.tree.params_marks.Given as goal

abbrev pub invariant-loop-i : goal.invariant-loop-i
invariant-loop-i l =
    Passed (param_marks l.fn.place) param_view l.items (marks_view l.initial.out) l.i
    (marks_view l.out)
