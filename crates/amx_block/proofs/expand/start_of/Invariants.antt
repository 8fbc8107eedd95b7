use Rattle.std.proofs.Common.{◌≡◌, ◌⊎◌, ◌-◌, ◌<◌, ◌≤◌, ℕ}
use Rattle.amx_ops.specs.Access.{byte_at}
use Rattle.amx_block.specs.Packed.{IsPiece}
use Rattle.amx_block.proofs.expand.start_of.Given as goal

abbrev pub invariant-loop-start : goal.invariant-loop-start
invariant-loop-start l =
    (l.start < l.end)
    × ((s : ℕ) → IsPiece l.cells s l.end → ((s ≡ 0) ⊎ (byte_at l.cells (s - 1) < 128))
    → s ≤ l.start)

abbrev pub decreases-loop-start : goal.decreases-loop-start
decreases-loop-start l = l.start
