use Rattle.std.proofs.Common.{◌≡◌, ◌+◌, ◌-◌, ◌*◌, pos, ◌+ℤ◌, length}
use Rattle.pawn_meaning.specs.Weight.{values_in}
use Rattle.gen_stmt.specs.Over.{over, pairs_of}
use Rattle.gen_stmt.proofs.write.write_values.Given as goal

abbrev pub invariant-loop-i : goal.invariant-loop-i
invariant-loop-i l =
    (over (l.at + 2 * l.i) (pairs_of (l.least +ℤ pos l.i)
    (values_in (l.least, l.greatest) - l.i) l.to) l.written
    ≡ over l.at (pairs_of l.least (values_in (l.least, l.greatest)) l.to) l.fn.b)
    × (length l.written.code ≡ length l.fn.b.code)
