-- What agreement of a program and a file comes to: every trace of the file is one of the meaning.
use Rattle.std.specs.Prelude.{◌≡◌, ℕ, ℤ, List, ◌∷◌, Some, length}
use Rattle.host_script.specs.declared.script.Script.{Script}
use Rattle.host_script.specs.Ranges.{IsScript}
use Rattle.pawn_meaning.specs.Program.{Program}
use Rattle.pawn_meaning.specs.Told.{meaning}
use Rattle.amx_ops.specs.declared.amx.Amx.{Amx}
use Rattle.amx_ops.specs.Trace.{Entry, address_of, trace_from}
use Rattle.gen_agrees.specs.Agrees.{Agrees, Serves, IsRoom, function_of}
use Rattle.run_laws.specs.TraceOf.{IsTraceOf}

-- whatever script serves the natives, for every room, entry and list of one or more bounds
abbrev pub AgreementIsWhole : Type 0
AgreementIsWhole = (program : Program) (amx : Amx) → Agrees program amx
    → (script : Script) (room : ℕ) (entry : Entry) (f : ℕ) (address : ℤ) (bound : ℕ)
    (bounds : List ℕ)
    → IsScript script → Serves script program.natives → IsRoom amx room
    → function_of program entry ≡ Some f → address_of amx entry ≡ Some address
    → IsTraceOf (meaning program script f) (length amx.code) room (bound ∷ bounds)
    (trace_from amx room script address bound bounds)
