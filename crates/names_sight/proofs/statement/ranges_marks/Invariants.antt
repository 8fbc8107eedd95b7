use Rattle.pawn_tree.specs.View.{range_view}
use Rattle.names_rules.specs.StatementMarks.{range_marks}
use Rattle.names_rules.specs.Passed.{Passed}
use Rattle.names_sight.specs.MarkView.{marks_view}
use Rattle.names_sight.proofs.statement.ranges_marks.Given as goal

abbrev pub invariant-loop-i : goal.invariant-loop-i
invariant-loop-i l =
    Passed range_marks range_view l.items (marks_view l.initial.out) l.i (marks_view l.out)
