use Rattle.std.proofs.Common.{[]}
use Rattle.pawn_tree.specs.View.{decl_view}
use Rattle.names_rules.specs.FileNames.{decls_names}
use Rattle.names_sight.proofs.AddLaws.{AddedSoFar}
use Rattle.names_sight.proofs.outside.file_names.Given as goal

abbrev pub invariant-loop-i : goal.invariant-loop-i
invariant-loop-i l = AddedSoFar decl_view decls_names l.tags l.items [] l.i l.names
