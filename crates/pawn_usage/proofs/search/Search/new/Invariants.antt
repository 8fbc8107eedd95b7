use Rattle.pawn_usage.specs.IsGraph.{plain}
use Rattle.pawn_usage.proofs.GraphLaws.{AreFirst}
use Rattle.pawn_usage.proofs.search.Search.new.Given as goal

abbrev pub invariant-loop-i : goal.invariant-loop-i
invariant-loop-i l = AreFirst (plain l.graph) l.i l.marks.items
