use Rattle.std.proofs.Common.{◌≡◌}
use Rattle.pawn_lex.proofs.LineLaws.{Onward}
use Rattle.pawn_lex.proofs.lexer.read.Given as goal

abbrev pub invariant-loop-line : goal.invariant-loop-line
invariant-loop-line l = record {
  items : l.line-items ≡ l.lines.lines;
  onward : Onward l.lines.lines l.line-index l.list;
}
