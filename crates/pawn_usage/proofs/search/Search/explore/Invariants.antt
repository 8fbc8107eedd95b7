use Rattle.pawn_usage.specs.IsGraph.{plain}
use Rattle.pawn_usage.proofs.SearchLaws.{IsExploring}
use Rattle.pawn_usage.proofs.search.Search.explore.Given as goal

abbrev pub invariant-loop-i : goal.invariant-loop-i
invariant-loop-i l = IsExploring (plain l.graph) l.starts l.i l.self
