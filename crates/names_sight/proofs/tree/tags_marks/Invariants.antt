use Rattle.names_rules.specs.VariableMarks.{tag_marks}
use Rattle.names_rules.specs.Passed.{Passed}
use Rattle.names_sight.specs.MarkView.{marks_view}
use Rattle.names_sight.proofs.tree.tags_marks.Given as goal

abbrev pub invariant-loop-i : goal.invariant-loop-i
invariant-loop-i l =
    Passed tag_marks (λ tag. tag) l.items (marks_view l.initial.out) l.i (marks_view l.out)
