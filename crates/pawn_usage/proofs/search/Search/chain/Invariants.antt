use Rattle.pawn_usage.specs.IsGraph.{plain}
use Rattle.pawn_usage.specs.Marks.{cells_at}
use Rattle.pawn_usage.proofs.SearchLaws.{IsFollowing}
use Rattle.pawn_usage.proofs.search.Search.chain.Given as goal

abbrev pub invariant-loop-next : goal.invariant-loop-next
invariant-loop-next l = IsFollowing (plain l.graph) l.self.marks.items l.start l.chain l.last

abbrev pub decreases-loop-next : goal.decreases-loop-next
decreases-loop-next l = cells_at l.self.marks.items l.last
