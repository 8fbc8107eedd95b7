use Rattle.std.proofs.Common.{◌≡◌, ◌<◌, ℕ, pos, slice_index_or}
use Rattle.amx_block.proofs.compare.equal_front.Given as goal

abbrev pub invariant-loop-place : goal.invariant-loop-place
invariant-loop-place l =
    (i : ℕ) → i < l.place → slice_index_or l.first i (pos 0) ≡ slice_index_or l.second i (pos 0)
