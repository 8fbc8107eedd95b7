-- Code as a list of instructions one behind another, each with all its cells (Implementer's Guide,
-- "Instruction reference").
use Rattle.std.specs.Prelude.{◌≡◌, ◌+◌, ◌*◌, ◌++◌, ℕ, ℤ, pos, negsuc, List, [], ◌∷◌, All, length}
use Rattle.std.specs.List.{flat_map}
use Rattle.amx_ops.specs.declared.op.Op.{Op}
use Rattle.amx_ops.specs.declared.instr.Instr.{Instr}
use Rattle.amx_ops.specs.declared.table.Operand.{Operand}
use Rattle.amx_ops.specs.declared.table.Operand.TheVariants as operand
use Rattle.amx_ops.specs.Table.{number_of, operand_of}
use Rattle.amx_ops.specs.Instructions.{IsProper, cells, Placed, placed}
use Rattle.amx_ops.specs.Valid.{IsValid}

-- an instruction as it is written: behind the count of a case table stand its default address and
-- its pairs
pub record Written : Type 0 where
  pub op : Op
  pub operand : ℤ
  pub table : List ℤ

-- all its cells
abbrev pub cells_of : Written → List ℤ
cells_of it = cells (record { op = it.op; operand = it.operand }) ++ it.table

-- so many pairs, and the default address before them
abbrev pub IsCounted : ℤ → List ℤ → Type 0
IsCounted (pos count) table = length table ≡ 1 + 2 * count
IsCounted (negsuc n) table = ⊥

-- an operand of its kind: 0 where there is none, and no table but behind a count
abbrev pub IsWrittenBy : Operand → ℤ → List ℤ → Type 0
IsWrittenBy operand.Cases v table = IsCounted v table
IsWrittenBy kind v table = IsProper kind v × (table ≡ [])

-- the same by its operation
abbrev pub IsWritten : Written → Type 0
IsWritten it = IsWrittenBy (operand_of it.op) it.operand it.table

-- as it is read
abbrev pub read_as : Written → Instr
read_as it = record { op = number_of it.op; operand = it.operand; cells = length (cells_of it) }

-- where they stand, the first at an address
abbrev pub places : ℕ → List Written → List Placed
places at [] = []
places at (it ∷ its) =
    record { at = at; instr = read_as it } ∷ places (at + 4 * length (cells_of it)) its

-- the cells of some instructions joined are the code, and they are what is read of it
pub record IsCodeOf (its : List Written) (code : List ℤ) : Type 0 where
  pub written : All IsWritten its
  pub cells : flat_map cells_of its ≡ code
  pub placed : placed code ≡ places 0 its

-- valid code is a list of instructions, and each list of instructions is read back from its code
pub record CodeIsInstructions : Type 0 where
  pub valid : (code : List ℤ) (natives : ℕ) (entry : ℤ) (publics : List ℤ)
      → IsValid code natives entry publics
      → (its : List Written) × IsCodeOf its code
  pub read : (its : List Written) → All IsWritten its → IsCodeOf its (flat_map cells_of its)
