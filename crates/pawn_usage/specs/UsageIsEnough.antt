-- With the cells of the greatest chain and some to spare the stack is never short.
use Rattle.std.specs.Prelude.{◌≡◌, ◌⊎◌, ◌+◌, ◌≤◌, ℕ, ℤ, pos, List, Some, Contains, length}
use Rattle.host_script.specs.declared.script.Script.{Script}
use Rattle.host_script.specs.declared.event.End.TheVariants.{Error}
use Rattle.host_script.specs.Ranges.{IsScript}
use Rattle.pawn_meaning.specs.Program.{Program}
use Rattle.pawn_meaning.specs.Told.{meaning}
use Rattle.amx_ops.specs.declared.amx.Amx.{Amx}
use Rattle.amx_ops.specs.Runs.{Over_by}
use Rattle.amx_ops.specs.Trace.{Entry, address_of, trace_from}
use Rattle.gen_agrees.specs.Agrees.{Agrees, Serves, IsRoom, function_of}
use Rattle.gen_agrees.specs.AgreesOn.{IsLost, Is, IsShort}
use Rattle.pawn_usage.specs.Chains.{starts}
use Rattle.pawn_usage.specs.IsUsage.{IsBound}
use Rattle.pawn_usage.specs.SpareCells.{spare_cells}

-- of one meaning, from main or a public function: the live calls never need more than the bound,
-- and in no room with the spare cells are they ever too many for the stack
pub record IsEnough (program : Program) (cells : ℕ) (script : Script) (f : ℕ) : Type 0 where
  pub peaks : (limit : ℕ) → (meaning program script f limit).peak ≤ cells
  pub never_short : (count room : ℕ) → cells + spare_cells ≤ room
      → ¬ IsShort (meaning program script f) count room

-- a file that agrees with a program ends with error 3 only where the script gives it, or behind a
-- stray access
abbrev pub EndsByScript : Program → Amx → ℕ → Type 0
EndsByScript program amx cells = (script : Script) (room : ℕ) (entry : Entry) (f : ℕ) (address : ℤ)
    (bound : ℕ) (bounds : List ℕ)
    → IsScript script → Serves script program.natives → IsRoom amx room
    → function_of program entry ≡ Some f → address_of amx entry ≡ Some address
    → cells + spare_cells ≤ room
    → let t = trace_from amx room script address bound bounds in
    t.stop ≡ Over_by (Error (pos 3))
    → IsLost (meaning program script f) (length t.config.events)
    ⊎ Is (meaning program script f) t.config.events (Error (pos 3))

-- so for each program with a bound
pub record UsageIsEnough : Type 0 where
  pub meanings : (program : Program) (cells : ℕ) (chain : List ℕ) → IsBound program cells chain
      → (script : Script) (f : ℕ) → Contains (starts program) f → IsEnough program cells script f
  pub files : (program : Program) (cells : ℕ) (chain : List ℕ) → IsBound program cells chain
      → (amx : Amx) → Agrees program amx → EndsByScript program amx cells
