use Rattle.pawn_tree.specs.View.{init_view}
use Rattle.names_rules.specs.VariableMarks.{init_marks}
use Rattle.names_rules.specs.Passed.{Passed}
use Rattle.names_sight.specs.MarkView.{marks_view}
use Rattle.names_sight.proofs.variable.+init.Given as goal

abbrev pub invariant-inits_marks-loop-i : goal.invariant-inits_marks-loop-i
invariant-inits_marks-loop-i l =
    Passed init_marks init_view l.items (marks_view l.initial.out) l.i (marks_view l.out)
