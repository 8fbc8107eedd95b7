use Rattle.pawn_tree.specs.Height.{var_height}
use Rattle.pawn_tree.specs.View.{var_view}
use Rattle.pawn_tree.proofs.HeightLaws.{IsHighest}
use Rattle.pawn_tree.proofs.variable_height.vars_height.Given as goal

abbrev pub invariant-loop-i : goal.invariant-loop-i
invariant-loop-i l = IsHighest var_height var_view l.items l.i l.height
