use Rattle.std.specs.Prelude.{ℕ, ◌<◌, get_or}
use Rattle.pawn_pre.specs.declared.line.Line.{Line}
use Rattle.pawn_front.specs.Good.{AreBytes}
use Rattle.pawn_front.proofs.good.are_byte_lines.Given as goal

abbrev pub invariant-loop-line : goal.invariant-loop-line
invariant-loop-line l = (k : ℕ) (d : Line) → k < l.line-index → AreBytes (get_or l.lines k d).bytes
