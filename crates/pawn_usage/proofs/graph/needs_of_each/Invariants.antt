use Rattle.std.proofs.Common.{◌≡◌, map, take}
use Rattle.pawn_meaning.specs.View.{program_view}
use Rattle.pawn_meaning.specs.Need.{need}
use Rattle.pawn_usage.proofs.graph.needs_of_each.Given as goal

abbrev pub invariant-loop-i : goal.invariant-loop-i
invariant-loop-i l = l.each ≡ take l.i (map need (program_view l.program).functions)
