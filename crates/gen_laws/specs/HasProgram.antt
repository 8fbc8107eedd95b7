-- A file that has a program's code, data and tables agrees with it.
use Rattle.std.specs.Prelude.{◌≡◌, ◌^◌, ◌<◌, ◌≤◌, pos, [], All, length, map}
use Rattle.pawn_cells.specs.Cells.{cell_of}
use Rattle.pawn_meaning.specs.Program.{Automaton, Public, Tag, Program}
use Rattle.pawn_meaning.specs.Valid.{IsValid}
use Rattle.pawn_meaning.specs.Limits.{IsWithinLimits}
use Rattle.pawn_meaning.specs.World.{first_memory}
use Rattle.amx_ops.specs.declared.amx.Amx.{Amx}
use Rattle.amx_ops.specs.Writable.{IsWritable}
use Rattle.gen_agrees.specs.Shape.{names, native_record}
use Rattle.gen_agrees.specs.Agrees.{Agrees}
use Rattle.gen_sim.specs.Pieces.{image, data_pieces}
use Rattle.gen_laws.specs.FileCode.{code_of}
use Rattle.gen_laws.specs.CodeIsValid.{main_by, publics_of}

-- what a file has beside its code, its data and its entries
pub record HasTables (program : Program) (amx : Amx) : Type 0 where
  pub writable : IsWritable amx
  pub natives : amx.natives ≡ map native_record program.natives
  pub publics : names amx.publics ≡ map (λ (it : Public). it.name) program.publics
  pub tags : amx.tags ≡ map (λ (it : Tag). record { address = cell_of it.number; name = it.name })
      program.tags
  pub no_libraries : amx.libraries ≡ []
  pub no_variables : amx.variables ≡ []
  pub version : amx.version ≡ 8
  pub flags : amx.flags ≡ 0
  pub room : pos amx.room ≡ program.dynamic

-- the program's code, with its functions' addresses as entries, and the first cells of its objects
-- with their offsets
pub record HasProgram (program : Program) (amx : Amx) : Type 0 where
  pub code : amx.code ≡ code_of program
  pub entry : amx.entry ≡ main_by program program.entry
  pub publics : map (λ it. it.address) amx.publics ≡ publics_of program
  pub store : amx.store ≡ image (first_memory program) (data_pieces program)
  pub tables : HasTables program amx

-- such a file behaves as its program means, where the program is valid and within the limits
abbrev pub ProgramsAgree : Type 0
ProgramsAgree = (program : Program) (amx : Amx) → IsValid program → IsWithinLimits program
    → All (λ (it : Automaton). length it.states < 2 ^ 31) program.automata
    → length program.natives ≤ 2 ^ 31 → HasProgram program amx → Agrees program amx
