use Rattle.pawn_tree.specs.Height.{range_height}
use Rattle.pawn_tree.specs.View.{range_view}
use Rattle.pawn_tree.proofs.HeightLaws.{IsHighest}
use Rattle.pawn_tree.proofs.statement_height.ranges_height.Given as goal

abbrev pub invariant-loop-i : goal.invariant-loop-i
invariant-loop-i l = IsHighest range_height range_view l.items l.i l.height
