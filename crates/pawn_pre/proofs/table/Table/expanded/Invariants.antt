use Rattle.std.proofs.Common.{◌≡◌, ◌≤◌, []}
use Rattle.pawn_pre.specs.Substitution.{steps}
use Rattle.pawn_pre.proofs.table.Table.expanded.Given as goal

abbrev pub invariant-loop-after : goal.invariant-loop-after
invariant-loop-after l =
    (steps l.self l.control l.left l.done l.after ≡ steps l.self l.control 1000 [] l.bytes)
    × (l.left ≤ 1000)

abbrev pub decreases-loop-after : goal.decreases-loop-after
decreases-loop-after l = l.left
