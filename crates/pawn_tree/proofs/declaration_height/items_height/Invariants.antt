use Rattle.pawn_tree.specs.Height.{item_height}
use Rattle.pawn_tree.specs.View.{item_view}
use Rattle.pawn_tree.proofs.HeightLaws.{IsHighest}
use Rattle.pawn_tree.proofs.declaration_height.items_height.Given as goal

abbrev pub invariant-loop-i : goal.invariant-loop-i
invariant-loop-i l = IsHighest item_height item_view l.items l.i l.height
