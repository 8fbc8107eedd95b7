use Rattle.pawn_tree.specs.Height.{arg_height, link_height}
use Rattle.pawn_tree.specs.View.{arg_view, link_view}
use Rattle.pawn_tree.proofs.HeightLaws.{IsHighest}
use Rattle.pawn_tree.proofs.expression_height.+height.Given as goal

abbrev pub invariant-args_height-loop-i : goal.invariant-args_height-loop-i
invariant-args_height-loop-i l = IsHighest arg_height arg_view l.items l.i l.height

abbrev pub invariant-links_height-loop-i : goal.invariant-links_height-loop-i
invariant-links_height-loop-i l = IsHighest link_height link_view l.items l.i l.height
