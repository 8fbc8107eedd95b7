-- What a program tells of its file before it runs.
use Rattle.std.specs.Prelude.{◌≡◌, ◌≢◌, ◌+◌, ◌≤◌, ℕ, ℤ, pos, negsuc, List, [], ◌∷◌, Option, None}
use Rattle.std.specs.Prelude.{Some, IfSome, length, map}
use Rattle.pawn_cells.specs.Cells.{cell_of}
use Rattle.pawn_meaning.specs.Program.{Program, Public, Tag}
use Rattle.pawn_meaning.specs.declared.program_limits.TheConstants.{DATA_LIMIT}
use Rattle.pawn_meaning.specs.Weight.{weight}
use Rattle.amx_ops.specs.declared.op.Op.TheVariants.{Halt}
use Rattle.amx_ops.specs.declared.amx.Amx.{Amx}
use Rattle.amx_ops.specs.declared.amx.Record.{Record}
use Rattle.amx_ops.specs.declared.instr.Instr.{Instr}
use Rattle.amx_ops.specs.Table.{op_of}
use Rattle.amx_ops.specs.Instructions.{Placed, placed}
use Rattle.amx_ops.specs.Valid.{IsValid}
use Rattle.amx_ops.specs.Writable.{IsWritable}

-- of the records of a table, in their order
abbrev pub names : List Record → List (List ℕ)
names records = map (λ it. it.name) records

-- a host puts the addresses of natives
abbrev pub native_record : List ℕ → Record
native_record name = record { address = pos 0; name = name }

-- the file has a main exactly where the program has one
abbrev pub HasEntry : Option ℕ → ℤ → Type 0
HasEntry None address = address ≡ negsuc 0
HasEntry (Some function) address = address ≢ negsuc 0

-- the last instruction of a file's code, if there is any
abbrev pub last_of : List Placed → Option Placed
last_of [] = None
last_of (it ∷ []) = Some it
last_of (it ∷ next ∷ others) = last_of (next ∷ others)

-- a sleep, after which the machine stands at the next instruction
abbrev pub IsSleep : Instr → Type 0
IsSleep i = (op_of i.op ≡ Some Halt) × (i.operand ≡ pos 12)

-- the tables, the sizes and the code of a file are such as its program's has
pub record HasShape (program : Program) (amx : Amx) : Type 0 where
  pub writable : IsWritable amx
  pub valid : IsValid amx.code (length amx.natives) amx.entry (map (λ it. it.address) amx.publics)
  pub natives : amx.natives ≡ map native_record program.natives
  pub publics : names amx.publics ≡ map (λ (it : Public). it.name) program.publics
  pub tags : amx.tags ≡ map (λ (it : Tag). record { address = cell_of it.number; name = it.name })
      program.tags
  pub no_libraries : amx.libraries ≡ []
  pub no_variables : amx.variables ≡ []
  pub version : amx.version ≡ 8
  pub flags : amx.flags ≡ 0
  pub entry : HasEntry program.entry amx.entry
  pub room : pos amx.room ≡ program.dynamic
  pub code : length amx.code ≤ weight program + 2
  pub store : length amx.store ≤ DATA_LIMIT
  pub last_is_no_sleep : IfSome (last_of (placed amx.code)) (λ it. ¬ IsSleep it.instr)
