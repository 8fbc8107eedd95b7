-- The state of the abstract machine: its registers, and one list of cells from the first cell of
-- the data up to the stack's top. Registers that hold addresses are in bytes from the data's first
-- cell.
use Rattle.std.specs.Prelude.{◌+◌, ◌-◌, ◌*◌, ◌/◌, ◌++◌, ℕ, ℤ, pos, List, length, take, drop}
use Rattle.std.specs.Prelude.{replicate, nat_le, nat_lt, if◌then◌else◌, slice_set}
use Rattle.std.specs.List.{slice_index_or}
use Rattle.amx_ops.specs.declared.amx.Amx.{Amx}

-- the registers and the cells
pub record State : Type 0 where
  pub pri : ℤ
  pub alt : ℤ
  -- the frame, the instruction, the stack's low end and the heap's high end
  pub frm : ℕ
  pub cip : ℕ
  pub stk : ℕ
  pub hea : ℕ
  pub cells : List ℤ

-- what one instruction does. An error leaves the state as it was
pub data Turned : Type 0 where
  Goes : State → Turned
  Errs : ℤ → Turned
  Halts : ℤ → State → Turned
  -- it calls a native by its number
  Asks : ℕ → State → Turned

-- the end of a file's data
abbrev pub first_hea : Amx → ℕ
first_hea amx = 4 * length amx.store

-- the stack's top
abbrev pub stp : State → ℕ
stp s = 4 * length s.cells

-- the cell that begins at an address
abbrev pub cell_at : State → ℕ → ℤ
cell_at s address = slice_index_or s.cells (address / 4) (pos 0)

-- error 3: stack and heap collide
abbrev pub push : State → ℤ → (State → Turned) → Turned
push s v go =
    if nat_le (s.hea + 4) s.stk
    then go (record s { stk = s.stk - 4; cells = slice_set s.cells ((s.stk - 4) / 4) v })
    else Errs (pos 3)

-- error 7: the stack underflows
abbrev pub pop : State → (ℤ → State → Turned) → Turned
pop s go =
    if nat_lt s.stk (stp s) then go (cell_at s s.stk) (record s { stk = s.stk + 4 })
    else Errs (pos 7)

-- the 16 cells that a frame leaves free, or error 3
abbrev pub with_margin : State → (State → Turned) → Turned
with_margin s go = if nat_le (s.hea + 64) s.stk then go s else Errs (pos 3)

-- the cells between heap and stack are 0
abbrev pub swept : State → State
swept s =
    record s {
      cells = take (s.hea / 4) s.cells
          ++ (replicate (s.stk / 4 - s.hea / 4) (pos 0) ++ drop (s.stk / 4) s.cells);
    }
