-- The instruction table as definitions read it (Implementer's Guide, "Instruction reference").
use denote.Enum.Declared.{tag_of}
use denote.Ref.{Bor}
use Rattle.std.specs.Prelude.{ℕ, ℤ, pos, negsuc, List, Bool, false, ◌==◌, Option, None, Some, find}
use Rattle.std.specs.Prelude.{map, slice_get}
use Rattle.pawn_cells.specs.Cells.{equal}
use Rattle.amx_ops.specs.declared.op.Op.{Op}
use Rattle.amx_ops.specs.contracts.op.Op.{the_type}
use Rattle.amx_ops.specs.declared.table.Operand.{Operand}
use Rattle.amx_ops.specs.declared.table.Operand.TheVariants as operand
use Rattle.amx_ops.specs.declared.table.TheConstants.{TABLE}

-- a row: number, operation, name and kind of operand
pub record Row : Type 0 where
  pub number : ℕ
  pub op : Op
  pub name : List ℕ
  pub operand : Operand

-- all rows
abbrev pub table : List Row
table = map (λ it. record { number = it.0; op = it.1; name = it.2.now; operand = it.3 }) TABLE

-- a row as the code holds it
abbrev pub row_by : (ℕ × Op × Bor (List ℕ) × Operand) → Row
row_by it = record { number = it.0; op = it.1; name = it.2.now; operand = it.3 }

-- all of them
abbrev pub rows_of : List (ℕ × Op × Bor (List ℕ) × Operand) → List Row
rows_of rows = map row_by rows

-- the row's number is this cell
abbrev pub has_number : ℤ → Row → Bool
has_number cell row = equal (pos row.number) cell

-- a cell is this number
abbrev pub is_number : ℕ → ℤ → Bool
is_number n (pos m) = n == m
is_number n (negsuc m) = false

-- the row of a cell of code
unfoldable pub row_at : ℤ → Option Row
row_at cell = find (has_number cell) table

-- its number and operand
abbrev pub operand_by : Option Row → Option (ℕ × Operand)
operand_by None = None
operand_by (Some row) = Some (row.number, row.operand)

-- the number and operand of a cell of code
abbrev pub operand_at : ℤ → Option (ℕ × Operand)
operand_at cell = operand_by (row_at cell)

-- the row of a number
abbrev pub row_of : ℕ → Option Row
row_of number = row_at (pos number)

-- the operation of a row
abbrev pub op_by : Option Row → Option Op
op_by None = None
op_by (Some row) = Some row.op

-- the operation of a cell of code
abbrev pub operation_at : ℤ → Option Op
operation_at cell = op_by (row_at cell)

-- the operation of a number
abbrev pub op_of : ℕ → Option Op
op_of number = operation_at (pos number)

-- the number of a row
abbrev pub number_by : Option Row → ℕ
number_by None = 0
number_by (Some it) = it.number

-- the number of an operation: the rows stand in the order of the operations
abbrev pub number_of : Op → ℕ
number_of op = number_by (slice_get table (tag_of the_type op))

-- a row's kind of operand
abbrev pub kind_by : Option Row → Operand
kind_by None = operand.Nothing
kind_by (Some it) = it.operand

-- what stands behind the number of an operation
abbrev pub operand_of : Op → Operand
operand_of op = kind_by (slice_get table (tag_of the_type op))
