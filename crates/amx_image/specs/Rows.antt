-- Rows of live cells that are written over.
use Rattle.std.specs.Prelude.{◌≡◌, ◌⊎◌, ◌+◌, ◌*◌, ◌/◌, ◌%◌, ◌≤◌, ◌++◌, ℕ, ℤ, List, length, take}
use Rattle.std.specs.Prelude.{drop}
use Rattle.amx_ops.specs.State.{State, stp}

-- so many cells from an address on are all on the heap's side, or all on the stack's
pub record IsLiveRow (s : State) (at count : ℕ) : Type 0 where
  pub aligned : at % 4 ≡ 0
  pub below : at + 4 * count ≤ stp s
  pub within : (at + 4 * count ≤ s.hea) ⊎ (s.stk ≤ at)

-- a state with a row of cells from an address on
abbrev pub with_row : State → ℕ → List ℤ → State
with_row s at row =
    record s { cells = take (at / 4) s.cells ++ (row ++ drop (at / 4 + length row) s.cells) }
