use Rattle.std.proofs.Common.{◌≡◌, [], length}
use Rattle.pawn_pre.specs.Define.{is_tail}
use Rattle.pawn_pre.proofs.define.is_tail.Given as goal

abbrev pub invariant-loop-left : goal.invariant-loop-left
invariant-loop-left l = is_tail l.seen.items l.left ≡ is_tail [] l.fn.tail

abbrev pub decreases-loop-left : goal.decreases-loop-left
decreases-loop-left l = length l.left
