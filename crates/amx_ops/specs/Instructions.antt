-- Whole instructions, one behind another (Implementer's Guide, "Instruction reference"). Addresses
-- are in bytes, four to a cell of code.
use Rattle.std.specs.Prelude.{◌≡◌, ◌+◌, ◌-◌, ◌*◌, ℕ, zero, suc, ℤ, pos, negsuc, List, [], ◌∷◌, Bool}
use Rattle.std.specs.Prelude.{◌==◌, Option, None, Some, is_some, find, length, option_map, sum_by}
use Rattle.std.specs.Prelude.{nat_le, if◌then◌else◌, drop}
use Rattle.amx_ops.specs.declared.op.Op.{Op}
use Rattle.amx_ops.specs.declared.instr.Instr.{Instr}
use Rattle.amx_ops.specs.declared.table.Operand.{Operand}
use Rattle.amx_ops.specs.declared.table.Operand.TheVariants as operand
use Rattle.amx_ops.specs.Table.{operand_at, number_of, operand_of}

-- an instruction as a generator writes it; the operand is 0 where it has none
pub record Instruction : Type 0 where
  pub op : Op
  pub operand : ℤ

-- an instruction with nothing behind its number
abbrev pub alone : ℕ → Instr
alone number = record { op = number; operand = pos 0; cells = 1 }

-- one with an operand, which is the next cell
abbrev pub with_operand : ℕ → List ℤ → Option Instr
with_operand number [] = None
with_operand number (v ∷ cells) = Some (record { op = number; operand = v; cells = 2 })

-- a case table with its count, its default address, and two cells for each of its pairs
abbrev pub case_table : ℕ → ℤ → List ℤ → Option Instr
case_table number (negsuc n) pairs = None
case_table number (pos count) pairs =
    if nat_le (2 * count) (length pairs)
    then Some (record { op = number; operand = pos count; cells = 3 + 2 * count })
    else None

-- the same, its count not known yet
abbrev pub with_cases : ℕ → List ℤ → Option Instr
with_cases number [] = None
with_cases number (count ∷ []) = None
with_cases number (count ∷ default ∷ pairs) = case_table number count pairs

-- an instruction by its number and its kind of operand, with the cells behind the number
abbrev pub read_by : ℕ → Operand → List ℤ → Option Instr
read_by number operand.Nothing cells = Some (alone number)
read_by number operand.Cases cells = with_cases number cells
read_by number kind cells = with_operand number cells

-- none for a number that the table doesn't have
abbrev pub read_row : Option (ℕ × Operand) → List ℤ → Option Instr
read_row None cells = None
read_row (Some row) cells = read_by row.0 row.1 cells

-- the whole instruction at the front of some cells
abbrev pub front : List ℤ → Option Instr
front [] = None
front (cell ∷ cells) = read_row (operand_at cell) cells

-- and at a cell of code
abbrev pub decoded : List ℤ → ℕ → Option Instr
decoded code at = front (drop at code)

-- ---- written

-- its number, and its operand behind it. Of a case table these are the number and the count alone:
-- its other cells stand in no single operand
abbrev pub cells_by : ℕ → ℤ → Operand → List ℤ
cells_by number v operand.Nothing = pos number ∷ []
cells_by number v kind = pos number ∷ v ∷ []

-- nothing for a number that the table doesn't have
abbrev pub encoded_by : Option (ℕ × Operand) → ℤ → List ℤ
encoded_by None v = []
encoded_by (Some row) v = cells_by row.0 v row.1

-- an instruction with its operand, by its number
abbrev pub encoded : ℕ → ℤ → List ℤ
encoded number v = encoded_by (operand_at (pos number)) v

-- an operand is 0 where there is none; a case table isn't written by a single operand
abbrev pub IsProper : Operand → ℤ → Type 0
IsProper operand.Nothing v = v ≡ pos 0
IsProper operand.Cases v = ⊥
IsProper kind v = Unit {0}

-- the number is in the table, with such an operand
abbrev pub IsEncodableBy : Option (ℕ × Operand) → ℤ → Type 0
IsEncodableBy None v = ⊥
IsEncodableBy (Some row) v = IsProper row.1 v

-- a number and an operand that can be written
abbrev pub IsEncodable : ℕ → ℤ → Type 0
IsEncodable number v = IsEncodableBy (operand_at (pos number)) v

-- the cells of an instruction of a generator
abbrev pub cells : Instruction → List ℤ
cells i = cells_by (number_of i.op) i.operand (operand_of i.op)

-- as it is read back
abbrev pub instr_by : ℕ → ℤ → Operand → Instr
instr_by number v operand.Nothing = alone number
instr_by number v kind = record { op = number; operand = v; cells = 2 }

-- an instruction of a generator, as it is read back
abbrev pub instr : Instruction → Instr
instr i = instr_by (number_of i.op) i.operand (operand_of i.op)

-- ---- one behind another

-- an instruction at its address
pub record Placed : Type 0 where
  pub at : ℕ
  pub instr : Instr

-- an instruction at an address and those behind it, or the end where none is whole
abbrev pub placed_by : ℕ → Option Instr → (Instr → List Placed) → List Placed
placed_by at None others = []
placed_by at (Some i) others = record { at = at; instr = i } ∷ others i

-- the instructions one behind another, as far as each is whole. Addresses count on cell by cell; so
-- many cells belong to the instruction before and are passed over
abbrev pub placed_from : ℕ → ℕ → List ℤ → List Placed
placed_from at passed [] = []
placed_from at (suc passed) (cell ∷ cells) = placed_from (at + 4) passed cells
placed_from at zero (cell ∷ cells) =
    placed_by at (front (cell ∷ cells)) (λ i. placed_from (at + 4) (i.cells - 1) cells)

-- those of some code
abbrev pub placed : List ℤ → List Placed
placed code = placed_from 0 0 code

-- the instruction that starts at an address
abbrev pub fetched : List ℤ → ℕ → Option Instr
fetched code at = option_map (λ it. it.instr) (find (λ it. it.at == at) (placed code))

-- an instruction starts at the address
abbrev pub is_start : List ℤ → ℕ → Bool
is_start code at = is_some (fetched code at)

-- the cells that some instructions take
abbrev pub cells_in : List Placed → ℕ
cells_in its = sum_by (λ (it : Placed). it.instr.cells) its
