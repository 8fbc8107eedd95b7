use Rattle.std.proofs.Common.{length, ◌≡◌}
use Rattle.pawn_pre.specs.Matching.{matched, with_given}
use Rattle.pawn_pre.proofs.matching.matched.Given as goal

abbrev pub invariant-loop-left : goal.invariant-loop-left
invariant-loop-left l =
    with_given l.given (matched l.control l.left l.rest) ≡
    matched l.fn.control l.fn.tail l.fn.bytes

abbrev pub decreases-loop-left : goal.decreases-loop-left
decreases-loop-left l = length l.left
