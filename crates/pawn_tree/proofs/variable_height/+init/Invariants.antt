use Rattle.pawn_tree.specs.Height.{init_height}
use Rattle.pawn_tree.specs.View.{init_view}
use Rattle.pawn_tree.proofs.HeightLaws.{IsHighest}
use Rattle.pawn_tree.proofs.variable_height.+init.Given as goal

abbrev pub invariant-inits_height-loop-i : goal.invariant-inits_height-loop-i
invariant-inits_height-loop-i l = IsHighest init_height init_view l.items l.i l.height
