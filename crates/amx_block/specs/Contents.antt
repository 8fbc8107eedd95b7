-- What contracts see of a block, in cells of four bytes: the code, and the memory that begins with
-- the data. An address counts bytes from the first cell of the one or of the other.
use Rattle.std.specs.Prelude.{◌++◌, ◌+◌, ◌/◌, ◌%◌, ◌-◌, ◌≤◌, ℕ, ℤ, pos, List, length, take, drop}
use Rattle.std.specs.Prelude.{replicate, slice_set}
use Rattle.std.specs.List.{slice_index_or}
use Rattle.pawn_cells.specs.Cells.{with_char}
use Rattle.amx_ops.specs.Writable.{cells_limit}

-- all cells of a block
pub record Contents : Type 0 where
  pub code : List ℤ
  -- data, heap and stack
  pub memory : List ℤ
  -- how many of its cells are the data
  pub store : ℕ

-- its cells in order, the code first
abbrev pub all_cells : Contents → List ℤ
all_cells block = block.code ++ block.memory

-- the cell that an address lies in
abbrev pub cell_at : List ℤ → ℕ → ℤ
cell_at cells at = slice_index_or cells (at / 4) (pos 0)

-- another cell in its place
abbrev pub with_cell : List ℤ → ℕ → ℤ → List ℤ
with_cell cells at value = slice_set cells (at / 4) value

-- another byte in its place; the rest of its cell stays
abbrev pub with_byte : List ℤ → ℕ → ℕ → List ℤ
with_byte cells at byte = with_cell cells at (with_char (cell_at cells at) (3 - at % 4) byte)

-- count cells from an address on
abbrev pub part_at : List ℤ → (at count : ℕ) → List ℤ
part_at cells at count = take count (drop (at / 4) cells)

-- the same cells, others in the place of count of them
abbrev pub with_part : List ℤ → (at count : ℕ) → List ℤ → List ℤ
with_part cells at count part = take (at / 4) cells ++ (part ++ drop (at / 4 + count) cells)

-- what a block holds that was just made
abbrev pub zeros : (code store room : ℕ) → Contents
zeros code store room =
    record {
      code = replicate code (pos 0);
      memory = replicate (store + room) (pos 0);
      store = store;
    }

-- what is always so of a block's cells: code and data are among them, and each address fits
pub record AreWithin (code store : ℕ) (cells : List ℤ) : Type 0 where
  pub within : code + store ≤ length cells
  pub small : length cells ≤ cells_limit
