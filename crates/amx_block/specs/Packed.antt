-- Compact cells that lie in the cells which they become: groups of seven bits, the highest first,
-- with the flag 0x80 on each byte that isn't a cell's last one.
use Rattle.std.specs.Prelude.{◌≡◌, ◌+◌, ◌-◌, ◌*◌, ◌/◌, ◌%◌, ◌<◌, ◌≤◌, ℕ, zero, suc, ℤ, pos, neg_ℤ}
use Rattle.std.specs.Prelude.{List, length}
use Rattle.pawn_cells.specs.Cells.{add, mul}
use Rattle.amx_ops.specs.Access.{byte_at}

-- the number of so many groups from a byte on; the highest bit of the first, 0x40, is the sign
abbrev pub groups : List ℤ → (start count : ℕ) → ℤ
groups cells start zero = neg_ℤ (pos (byte_at cells start / 64 % 2))
groups cells start (suc count) =
    add (mul (groups cells start count) (pos 128)) (pos (byte_at cells (start + count) % 128))

-- the flag is on all bytes but the last
pub record IsPiece (cells : List ℤ) (start end : ℕ) : Type 0 where
  pub some : start < end
  pub goes_on : (k : ℕ) → start ≤ k → suc k < end → 128 ≤ byte_at cells k
  pub ends : byte_at cells (end - 1) < 128

-- so many pieces in so many bytes, one behind another, and none reaches behind its cell
pub record IsPacked (cells : List ℤ) (bytes count : ℕ) : Type 0 where
  -- where each piece begins, and the last one ends
  pub cut : ℕ → ℕ
  pub first : cut 0 ≡ 0
  pub last : cut count ≡ bytes
  pub fits : (k : ℕ) → k ≤ count → cut k ≤ 4 * k
  pub piece : (k : ℕ) → k < count → IsPiece cells (cut k) (cut (suc k))
  pub within : count ≤ length cells
