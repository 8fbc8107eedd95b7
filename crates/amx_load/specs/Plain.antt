-- Plain cells in bytes: four bytes each, the least first.
use Rattle.std.specs.Prelude.{◌≡◌, ◌*◌, ◌<◌, ℕ, ℤ, pos, List, length, slice_index}
use Rattle.std.specs.List.{slice_index_or}
use Rattle.pawn_cells.specs.Cells.{cell_of}
use Rattle.amx_ops.specs.Access.{four_bytes}

-- the bytes are those of the cells
pub record ArePlain (cells : List ℤ) (bytes : List ℕ) : Type 0 where
  pub size : length bytes ≡ 4 * length cells
  pub each : (i : ℕ) → i < length cells
      → slice_index_or cells i (pos 0) ≡ cell_of (four_bytes (slice_index bytes) (4 * i))
