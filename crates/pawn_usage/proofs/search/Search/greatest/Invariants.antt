use Rattle.pawn_usage.proofs.SearchLaws.{IsGreatestOf}
use Rattle.pawn_usage.proofs.search.Search.greatest.Given as goal

abbrev pub invariant-loop-i : goal.invariant-loop-i
invariant-loop-i l = IsGreatestOf l.self l.starts l.i l.greatest
