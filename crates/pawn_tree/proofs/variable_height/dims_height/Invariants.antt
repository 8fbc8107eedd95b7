use Rattle.pawn_tree.specs.Height.{dim_height}
use Rattle.pawn_tree.specs.View.{dim_view}
use Rattle.pawn_tree.proofs.HeightLaws.{IsHighest}
use Rattle.pawn_tree.proofs.variable_height.dims_height.Given as goal

abbrev pub invariant-loop-i : goal.invariant-loop-i
invariant-loop-i l = IsHighest dim_height dim_view l.items l.i l.height
