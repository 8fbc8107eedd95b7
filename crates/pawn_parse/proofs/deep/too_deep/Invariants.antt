use Rattle.pawn_parse.proofs.BracketLaws.{IsCounted}
use Rattle.pawn_parse.proofs.deep.too_deep.Given as goal

abbrev pub invariant-loop-i : goal.invariant-loop-i
invariant-loop-i l = IsCounted l.tokens l.i l.count
