use Rattle.std.proofs.Common.{◌≡◌, ◌+◌, ◌≤◌, ◌++◌, length}
use Rattle.std.specs.Str.Lines.{lines}
use Rattle.pawn_pre.specs.Joined.{glued, joined, rows_of}
use Rattle.pawn_pre.proofs.cut.cut_rows.Given as goal

abbrev pub invariant-loop-rest : goal.invariant-loop-rest
invariant-loop-rest l =
    (l.rows.items ++ glued l.start l.front (joined l.number (lines l.rest)) ≡ rows_of l.fn.bytes)
    × (l.number + length l.rest ≤ 1 + length l.fn.bytes)

abbrev pub decreases-loop-rest : goal.decreases-loop-rest
decreases-loop-rest l = length l.rest
