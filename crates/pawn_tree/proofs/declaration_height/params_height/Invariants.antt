use Rattle.pawn_tree.specs.Height.{param_height}
use Rattle.pawn_tree.specs.View.{param_view}
use Rattle.pawn_tree.proofs.HeightLaws.{IsHighest}
use Rattle.pawn_tree.proofs.declaration_height.params_height.Given as goal

abbrev pub invariant-loop-i : goal.invariant-loop-i
invariant-loop-i l = IsHighest param_height param_view l.items l.i l.height
