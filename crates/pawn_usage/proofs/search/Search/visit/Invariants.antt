use Rattle.pawn_usage.specs.IsGraph.{plain}
use Rattle.pawn_usage.specs.Marks.{IsOpened, work_left}
use Rattle.pawn_usage.proofs.search.Search.visit.Given as goal

abbrev pub invariant-loop-top : goal.invariant-loop-top
invariant-loop-top l = IsOpened (plain l.graph) l.start l.fn.self l.self

abbrev pub decreases-loop-top : goal.decreases-loop-top
decreases-loop-top l = work_left l.self
