-- The relation between a program and a file: whatever the file does is what the source means, both
-- ways, with bounds on stack and steps.
use Rattle.std.specs.Prelude.{◌≡◌, ◌⊎◌, ◌+◌, ◌*◌, ◌≤◌, ℕ, ℤ, List, Option, Some, All, Any, IsTrue}
use Rattle.std.specs.Prelude.{length, slice_get, option_map}
use Rattle.host_script.specs.declared.script.Script.{Script}
use Rattle.host_script.specs.declared.script.Native.{Native}
use Rattle.host_script.specs.Ranges.{IsScript}
use Rattle.pawn_meaning.specs.Program.{Program, Public}
use Rattle.pawn_meaning.specs.Told.{meaning}
use Rattle.amx_ops.specs.declared.amx.Amx.{Amx}
use Rattle.amx_ops.specs.Writable.{stored_cells, memory_limit}
use Rattle.amx_ops.specs.Trace.{Entry, Main, address_of, trace_from}
use Rattle.amx_ops.specs.Trace as trace
use Rattle.gen_agrees.specs.Shape.{HasShape}
use Rattle.gen_agrees.specs.AgreesOn.{AgreesOn}

-- the number of an entry's function
abbrev pub function_of : Program → Entry → Option ℕ
function_of program Main = program.entry
function_of program (trace.Public n) =
    option_map (λ (it : Public). it.function) (slice_get program.publics n)

-- the script lists each native, or serves others too
abbrev pub Serves : Script → List (List ℕ) → Type 0
Serves script natives =
    IsTrue script.others ⊎ All (λ name. Any (λ (it : Native). it.name ≡ name) script.natives)
    natives

-- a room that a machine may have
abbrev pub IsRoom : Amx → ℕ → Type 0
IsRoom amx room = 4 * (stored_cells amx + room) ≤ memory_limit

-- the file is of the program's form, and each of its runs is as the program means
pub record Agrees (program : Program) (amx : Amx) : Type 0 where
  pub shape : HasShape program amx
  -- for every script that keeps its form and lists the natives, every room, entry and list of one
  -- or more bounds
  pub runs : (script : Script) (room : ℕ) (entry : Entry) (f : ℕ) (address : ℤ) (bound : ℕ)
      (bounds : List ℕ)
      → IsScript script → Serves script program.natives → IsRoom amx room
      → function_of program entry ≡ Some f → address_of amx entry ≡ Some address
      → AgreesOn (meaning program script f) (length amx.code) room
      (trace_from amx room script address bound bounds)
