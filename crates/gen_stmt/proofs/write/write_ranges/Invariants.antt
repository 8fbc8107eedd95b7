use Rattle.std.proofs.Common.{◌≡◌, ◌+◌, ◌*◌, drop, length}
use Rattle.gen_laws.specs.SwitchCode.{values_of}
use Rattle.gen_stmt.specs.Over.{over, ranges_pairs}
use Rattle.gen_stmt.proofs.write.write_ranges.Given as goal

abbrev pub invariant-loop-i : goal.invariant-loop-i
invariant-loop-i l =
    (over l.cell (ranges_pairs (drop l.i l.ranges) l.to) l.written
    ≡ over l.at (ranges_pairs l.ranges l.to) l.fn.b)
    × (l.cell + 2 * values_of (drop l.i l.ranges) ≡ l.at + 2 * values_of l.ranges)
    × (length l.written.code ≡ length l.fn.b.code)
