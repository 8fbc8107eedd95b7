use Rattle.std.proofs.Common.{◌≡◌, ◌<◌, ◌≤◌, ℕ, pos, length, slice_index_or}
use Rattle.amx_load.proofs.cells.put_store.Given as goal

abbrev pub invariant-loop-place : goal.invariant-loop-place
invariant-loop-place l = record {
  done : (k : ℕ) → k < l.place → slice_index_or l.block.memory k (pos 0)
      ≡ slice_index_or l.store k (pos 0);
  others : (k : ℕ) → l.place ≤ k
      → slice_index_or l.block.memory k (pos 0) ≡ slice_index_or l.initial.block.memory k (pos 0);
  count : length l.block.memory ≡ length l.initial.block.memory;
  code : l.block.code ≡ l.initial.block.code;
  store : l.block.store ≡ l.initial.block.store;
}
