use Rattle.std.proofs.Common.{[]}
use Rattle.pawn_tree.specs.View.{decl_view}
use Rattle.names_rules.specs.TreeMarks.{decl_marks}
use Rattle.names_rules.specs.Passed.{Passed}
use Rattle.names_sight.specs.MarkView.{marks_view}
use Rattle.names_sight.proofs.tree.tree_marks.Given as goal

abbrev pub invariant-loop-i : goal.invariant-loop-i
invariant-loop-i l = Passed decl_marks decl_view l.items [] l.i (marks_view l.marks)
