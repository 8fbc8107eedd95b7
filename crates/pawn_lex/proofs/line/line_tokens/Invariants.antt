use Rattle.std.proofs.Common.{length}
use Rattle.pawn_lex.proofs.LineLaws.{LineFront}
use Rattle.pawn_lex.proofs.line.line_tokens.Given as goal

abbrev pub invariant-loop-blanks : goal.invariant-loop-blanks
invariant-loop-blanks l = LineFront l.line l.initial.list l.list l.first l.rest

abbrev pub decreases-loop-blanks : goal.decreases-loop-blanks
decreases-loop-blanks l = length l.rest
