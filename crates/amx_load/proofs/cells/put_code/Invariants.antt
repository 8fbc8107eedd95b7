use Rattle.std.proofs.Common.{◌≡◌, ◌<◌, ℕ, pos, length, slice_index_or}
use Rattle.amx_load.proofs.cells.put_code.Given as goal

abbrev pub invariant-loop-place : goal.invariant-loop-place
invariant-loop-place l = record {
  done : (k : ℕ) → k < l.place → slice_index_or l.block.code k (pos 0)
      ≡ slice_index_or l.code k (pos 0);
  count : length l.block.code ≡ length l.code;
  memory : l.block.memory ≡ l.initial.block.memory;
  store : l.block.store ≡ l.initial.block.store;
}
