use Rattle.std.proofs.Common.{◌≡◌, false, length}
use Rattle.pawn_pre.specs.File.{blanked, with_rows}
use Rattle.pawn_pre.specs.Joined.{rows_of}
use Rattle.pawn_pre.proofs.file.read_rows.Given as goal

abbrev pub invariant-loop-row : goal.invariant-loop-row
invariant-loop-row l =
    with_rows l.rows.items (blanked l.unclosed l.last l.joined.items) ≡
    blanked false 1 (rows_of l.fn.bytes)

abbrev pub decreases-loop-row : goal.decreases-loop-row
decreases-loop-row l = length l.joined.items
