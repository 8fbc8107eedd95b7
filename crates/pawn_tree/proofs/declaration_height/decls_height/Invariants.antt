use Rattle.pawn_tree.specs.Height.{decl_height}
use Rattle.pawn_tree.specs.View.{decl_view}
use Rattle.pawn_tree.proofs.HeightLaws.{IsHighest}
use Rattle.pawn_tree.proofs.declaration_height.decls_height.Given as goal

abbrev pub invariant-loop-i : goal.invariant-loop-i
invariant-loop-i l = IsHighest decl_height decl_view l.items l.i l.height
