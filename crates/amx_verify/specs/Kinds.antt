-- The kind of each cell of code: the number of the instruction that starts there, 0 where none
-- does.
use Rattle.std.specs.Prelude.{◌≡◌, ◌+◌, ◌-◌, ◌/◌, ◌%◌, ◌<◌, ◌≤◌, ℕ, zero, suc, ℤ, pos, List, [], ◌∷◌}
use Rattle.std.specs.Prelude.{Bool, true, false, Option, None, Some, length, drop}
use Rattle.std.specs.List.{slice_index_or}
use Rattle.amx_ops.specs.declared.amx.Amx.{Amx}
use Rattle.amx_ops.specs.declared.instr.Instr.{Instr}
use Rattle.amx_ops.specs.Table.{row_of}
use Rattle.amx_ops.specs.Valid.{is_cases}
use Rattle.amx_ops.specs.Instructions.{front, fetched, is_start}
use Rattle.amx_ops.specs.Writable.{cells_limit}

-- of a cell at which an instruction was looked for
abbrev pub kind_by : Option Instr → ℕ
kind_by None = 0
kind_by (Some i) = i.op

-- at an address
abbrev pub kind : List ℤ → ℕ → ℕ
kind code at = kind_by (fetched code at)

-- the cells that belong to an instruction, behind its first; all others where it isn't whole
abbrev pub passed_by : Option Instr → ℕ → ℕ
passed_by None others = others
passed_by (Some i) others = i.cells - 1

-- so many cells belong to the instruction before
abbrev pub kinds : ℕ → List ℤ → List ℕ
kinds passed [] = []
kinds (suc passed) (cell ∷ cells) = 0 ∷ kinds passed cells
kinds zero (cell ∷ cells) =
    kind_by (front (cell ∷ cells)) ∷ kinds (passed_by (front (cell ∷ cells)) (length cells)) cells

-- of each cell of code
abbrev pub kinds_of : List ℤ → List ℕ
kinds_of code = kinds 0 code

-- an instruction with this number starts at an address: it is the one that the cells from there on
-- begin with
pub record StartsAs (code : List ℤ) (at number : ℕ) : Type 0 where
  pub start : is_start code at ≡ true
  pub within : (at % 4 ≡ 0) × (at / 4 < length code)
  pub here : fetched code at ≡ front (drop (at / 4) code)
  pub cell : pos number ≡ slice_index_or code (at / 4) (pos 0)

-- a file with the kinds of its code, within the limit of memory
pub record IsMarked (amx : Amx) (found : List ℕ) : Type 0 where
  pub kinds : found ≡ kinds_of amx.code
  pub memory : length amx.code + length amx.store + amx.room ≤ cells_limit

-- an instruction, if it is there, is a case table
abbrev pub table_by : Option Instr → Bool
table_by None = false
table_by (Some i) = is_cases (row_of i.op)
