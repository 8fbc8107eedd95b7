use Rattle.names_sight.specs.MarkView.{marks_view}
use Rattle.check_declarations.specs.Mentioned.{Listed}
use Rattle.check_declarations.proofs.tags.program_tags.Given as goal

abbrev pub invariant-loop-place : goal.invariant-loop-place
invariant-loop-place l = Listed (marks_view l.fn.marks) l.fn.tags l.place l.list
