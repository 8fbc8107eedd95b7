-- A file that has a program's code and data agrees with what the program means.
use Rattle.std.specs.Prelude.{◌≡◌, ◌+◌, ◌^◌, ◌<◌, ◌≤◌, ℕ, ℤ, pos, List, Some, All, length}
use Rattle.std.specs.Prelude.{slice_get}
use Rattle.pawn_cells.specs.Cells.{IsCell, bits_of}
use Rattle.host_script.specs.declared.script.Script.{Script}
use Rattle.host_script.specs.Ranges.{IsScript}
use Rattle.pawn_meaning.specs.Program.{Function, Automaton, Program}
use Rattle.pawn_meaning.specs.Valid.{IsValid}
use Rattle.pawn_meaning.specs.World.{first_memory}
use Rattle.pawn_meaning.specs.Meaning.{name_of}
use Rattle.pawn_meaning.specs.Told.{meaning}
use Rattle.amx_ops.specs.declared.amx.Amx.{Amx}
use Rattle.amx_ops.specs.declared.op.Op.TheVariants as op
use Rattle.amx_ops.specs.Instructions.{fetched}
use Rattle.amx_ops.specs.Written.{read_as}
use Rattle.amx_ops.specs.Moves as machine
use Rattle.amx_ops.specs.Trace.{trace_from}
use Rattle.gen_agrees.specs.Agrees.{IsRoom}
use Rattle.gen_agrees.specs.AgreesOn.{AgreesOn}
use Rattle.gen_sim.specs.Pieces.{image, data_pieces}
use Rattle.gen_sim.specs.Site.{Site}
use Rattle.gen_sim.specs.Items.{item_cells, LieIn, with}
use Rattle.gen_laws.specs.FunctionCode.{function_items}

-- a file with its functions at these addresses, and all else of a run
abbrev pub site_of : Program → Amx → (ℕ → ℕ) → Script → (room limit : ℕ) → Site
site_of program amx entry script room limit = record {
  amx = amx;
  script = script;
  program = program;
  room = room;
  limit = limit;
  entry = entry;
}

-- a valid program's file: HALT 0 at address 0, each function's code at its address, the first cells
-- of all objects with their offsets, and the natives' names
pub record IsFileOf (program : Program) (amx : Amx) (entry : ℕ → ℕ) : Type 0 where
  pub valid : IsValid program
  pub few : All (λ (it : Automaton). length it.states < 2 ^ 31) program.automata
  pub numbered : length program.natives ≤ 2 ^ 31
  pub natives : (n : ℕ) → machine.name_of amx.natives n ≡ name_of program n
  pub stored : amx.store ≡ image (first_memory program) (data_pieces program)
  pub cells : All IsCell amx.store
  pub first : fetched amx.code 0 ≡ Some (read_as (with op.Halt (pos 0)))
  pub lie : (script : Script) (room limit f : ℕ) (function : Function)
      → slice_get program.functions f ≡ Some function
      → LieIn (site_of program amx entry script room limit) (entry f)
      (function_items program (entry f) function)
      × (length (item_cells (function_items program (entry f) function)) + 2 ≤ length amx.code)

-- for every script that keeps its ranges, every room, function and list of bounds
abbrev pub FilesAgree : Type 0
FilesAgree = (program : Program) (amx : Amx) (entry : ℕ → ℕ) → IsFileOf program amx entry
    → (script : Script) (room : ℕ)
    → IsScript script → IsRoom amx room → (f : ℕ) (address : ℤ) → bits_of address ≡ entry f
    → (bound : ℕ) (bounds : List ℕ)
    → AgreesOn (meaning program script f) (length amx.code) room
    (trace_from amx room script address bound bounds)
