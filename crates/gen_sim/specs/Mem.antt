-- A machine's cells that stand for a memory of the world: low pieces up to HEA, cells that are
-- free, from STK on the values that wait, and high pieces up to the top.
use Rattle.std.specs.Prelude.{◌≡◌, ◌+◌, ◌*◌, ℕ, ℤ, List, ◌∷◌, ◌++◌, All, length}
use Rattle.pawn_cells.specs.Cells.{IsCell}
use Rattle.pawn_meaning.specs.Memory.{Memory}
use Rattle.amx_ops.specs.State.{State}
use Rattle.gen_sim.specs.Pieces.{Piece, Fixed, AreThere, image, total}

-- low pieces, cells between, and high pieces
abbrev pub row : List Piece → List ℤ → List Piece → List Piece
row low between high = low ++ Fixed between ∷ high

-- the machine has N cells. What the free ones hold doesn't matter
pub record Mem (N : ℕ) (low : List Piece) (pending : List ℤ) (high : List Piece) (m : Memory)
    (s : State) : Type 0 where
  pub free : List ℤ
  pub cells : s.cells ≡ image m (row low (free ++ pending) high)
  pub hea : s.hea ≡ 4 * total low
  pub stk : s.stk ≡ 4 * (total low + length free)
  pub there : AreThere m (row low (free ++ pending) high)
  pub size : total low + (length (free ++ pending) + total high) ≡ N
  pub fits : All IsCell s.cells
