-- A file of a program.
use Rattle.std.specs.Prelude.{◌^◌, ◌<◌, ◌≤◌, pos, [], All, length, map}
use Rattle.pawn_cells.specs.Cells.{cell_of}
use Rattle.pawn_meaning.specs.Program.{Automaton, Public, Tag, Program}
use Rattle.pawn_meaning.specs.Valid.{IsValid}
use Rattle.pawn_meaning.specs.Limits.{IsWithinLimits}
use Rattle.pawn_meaning.specs.Weight.{counted}
use Rattle.pawn_meaning.specs.World.{first_memory}
use Rattle.amx_ops.specs.declared.amx.Amx.{Amx}
use Rattle.amx_ops.specs.Writable.{IsWritable}
use Rattle.gen_agrees.specs.Shape.{native_record}
use Rattle.gen_agrees.specs.Agrees.{Agrees}
use Rattle.gen_sim.specs.Pieces.{image, data_pieces}
use Rattle.gen_laws.specs.FileCode.{entry_of, code_of}
use Rattle.gen_laws.specs.CodeIsValid.{main_by}

-- no flag is set, and the tables of libraries and public variables are empty
abbrev pub file_of : Program → Amx
file_of program = record {
  flags = 0;
  version = 8;
  code = code_of program;
  store = image (first_memory program) (data_pieces program);
  room = counted program.dynamic;
  entry = main_by program program.entry;
  publics =
      map (λ (it : Public). record { address = pos (entry_of program it.function); name = it.name })
      program.publics;
  natives = map native_record program.natives;
  libraries = [];
  variables = [];
  tags = map (λ (it : Tag). record { address = cell_of it.number; name = it.name }) program.tags;
}

-- it agrees with the program, where it can be written
abbrev pub ProgramsHaveFiles : Type 0
ProgramsHaveFiles = (program : Program) → IsValid program → IsWithinLimits program
    → All (λ (it : Automaton). length it.states < 2 ^ 31) program.automata
    → length program.natives ≤ 2 ^ 31 → IsWritable (file_of program)
    → Agrees program (file_of program)
