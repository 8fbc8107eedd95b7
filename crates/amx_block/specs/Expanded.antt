-- Compact cells expanded in place, from the last one to the first.
use Rattle.std.specs.Prelude.{◌≡◌, ◌+◌, ◌-◌, ◌<◌, ◌≤◌, ℕ, suc, ℤ, pos, List, length}
use Rattle.std.specs.List.{slice_index_or}
use Rattle.amx_block.specs.Contents.{Contents, all_cells}
use Rattle.amx_block.specs.Packed.{groups, IsPacked}

-- the cells from number `left` on are expanded, so that the pieces before end at a byte, and all
-- others are as they were
pub record IsExpandedFrom (old new : List ℤ) (bytes count left end : ℕ)
    (p : IsPacked old bytes count) : Type 0 where
  pub end_is : end ≡ p.cut left
  pub below : (k : ℕ) → k < left → slice_index_or new k (pos 0) ≡ slice_index_or old k (pos 0)
  pub done : (k : ℕ) → left ≤ k → k < count
      → slice_index_or new k (pos 0) ≡ groups old (p.cut k) (p.cut (suc k) - p.cut k)
  pub past : (k : ℕ) → count ≤ k → slice_index_or new k (pos 0) ≡ slice_index_or old k (pos 0)

-- how many cells of a block are code and data
abbrev pub file_cells : Contents → ℕ
file_cells block = length block.code + block.store

-- so many bytes are the compact form of its code and data
abbrev pub IsPackedIn : ℕ → Contents → Type 0
IsPackedIn bytes block = IsPacked (all_cells block) bytes (file_cells block)

-- code and data are the numbers of the pieces, and all other cells are as they were
pub record IsExpanded (bytes : ℕ) (old new : Contents) (p : IsPackedIn bytes old) : Type 0 where
  pub cells : IsExpandedFrom (all_cells old) (all_cells new) bytes (file_cells old) 0 0 p
  pub code : length new.code ≡ length old.code
  pub memory : length new.memory ≡ length old.memory
  pub store : new.store ≡ old.store
