-- A copy of bytes within a block's memory, as if all were read before any is written.
use Rattle.std.specs.Prelude.{◌≡◌, ◌≢◌, ◌+◌, ◌-◌, ◌/◌, ◌<◌, ◌≤◌, ℕ, ℤ, pos, FitsSigned, List}
use Rattle.std.specs.Prelude.{length, take, ◌&&◌, nat_le, nat_lt, if◌then◌else◌}
use Rattle.std.specs.Int.{w32}
use Rattle.std.specs.List.{slice_index_or}
use Rattle.amx_block.specs.Contents.{Contents, cell_at}
use Rattle.amx_ops.specs.Access.{byte_at}

-- byte k once the copy's bytes from number `low` to before number `high` are done
abbrev pub copied_byte : List ℤ → (from to low high k : ℕ) → ℕ
copied_byte cells from to low high k =
    if nat_le (to + low) k && nat_lt k (to + high) then byte_at cells (from + (k - to))
    else byte_at cells k

-- those are done, and nothing else has changed
pub record IsCopied (from to low high : ℕ) (old new : Contents) : Type 0 where
  pub bytes : (k : ℕ) → byte_at new.memory k ≡ copied_byte old.memory from to low high k
  pub count : length new.memory ≡ length old.memory
  -- a cell without one of those bytes is as it was, and one with such a byte fits 32 bits
  pub others : (i : ℕ) → ((k : ℕ) → to + low ≤ k → k < to + high → k / 4 ≢ i)
      → slice_index_or new.memory i (pos 0) ≡ slice_index_or old.memory i (pos 0)
  pub fits : (k : ℕ) → to + low ≤ k → k < to + high → FitsSigned w32 (cell_at new.memory k)
  pub code : new.code ≡ old.code
  pub store : new.store ≡ old.store

-- count cells from one number on stand from another one on, and all others are as they were
pub record IsRun (from to count : ℕ) (old new : List ℤ) : Type 0 where
  pub copied : (i : ℕ) → to ≤ i → i < to + count
      → slice_index_or new i (pos 0) ≡ slice_index_or old (from + (i - to)) (pos 0)
  pub fits : (i : ℕ) → to ≤ i → i < to + count → FitsSigned w32 (slice_index_or new i (pos 0))
  pub behind : (i : ℕ) → to + count ≤ i
      → slice_index_or new i (pos 0) ≡ slice_index_or old i (pos 0)
  pub front : take to new ≡ take to old
  pub size : length new ≡ length old

-- those from number `low` on do, and all others are as they were
pub record IsRunFrom (low from to count : ℕ) (old new : List ℤ) : Type 0 where
  pub copied : (i : ℕ) → to + low ≤ i → i < to + count
      → slice_index_or new i (pos 0) ≡ slice_index_or old (from + (i - to)) (pos 0)
  pub fits : (i : ℕ) → to + low ≤ i → i < to + count → FitsSigned w32 (slice_index_or new i (pos 0))
  pub behind : (i : ℕ) → to + count ≤ i
      → slice_index_or new i (pos 0) ≡ slice_index_or old i (pos 0)
  pub front : take (to + low) new ≡ take (to + low) old
  pub size : length new ≡ length old
