-- Bytes put over the first ones of a block, from the code on.
use Rattle.std.specs.Prelude.{◌≡◌, ◌*◌, ◌<◌, ◌≤◌, ℕ, ℤ, pos, FitsSigned, List, length}
use Rattle.std.specs.Prelude.{slice_index}
use Rattle.std.specs.Int.{w32}
use Rattle.std.specs.List.{slice_index_or}
use Rattle.amx_ops.specs.Access.{byte_at}
use Rattle.amx_block.specs.Contents.{Contents, all_cells}

-- so many bytes are those of the cells, the least one of a cell first, and all else is as it was
pub record IsPut (bytes : List ℕ) (count : ℕ) (old new : List ℤ) : Type 0 where
  pub put : (k : ℕ) → k < count → byte_at new k ≡ slice_index bytes k
  pub rest : (k : ℕ) → count ≤ k → byte_at new k ≡ byte_at old k
  -- a cell without one of those bytes is as it was, and one with such a byte fits 32 bits
  pub others : (i : ℕ) → count ≤ 4 * i
      → slice_index_or new i (pos 0) ≡ slice_index_or old i (pos 0)
  pub fits : (i : ℕ) → 4 * i < count → FitsSigned w32 (slice_index_or new i (pos 0))
  pub size : length new ≡ length old

-- the bytes stand in the block's first cells, and its parts are as long as they were
pub record IsLoaded (bytes : List ℕ) (old new : Contents) : Type 0 where
  pub cells : IsPut bytes (length bytes) (all_cells old) (all_cells new)
  pub code : length new.code ≡ length old.code
  pub store : new.store ≡ old.store
