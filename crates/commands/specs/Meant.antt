-- What the run of a source's file tells is what the source means.
use Rattle.std.specs.Prelude.{ℕ, ◌∷◌, length, replicate}
use Rattle.host_script.specs.declared.script.Script.{Script}
use Rattle.pawn_meaning.specs.Program.{Program}
use Rattle.pawn_meaning.specs.Told.{meaning}
use Rattle.amx_ops.specs.declared.amx.Amx.{Amx}
use Rattle.run_laws.specs.TraceOf.{IsTraceOf}
use Rattle.commands.specs.Played.{trace_of}

-- from the function that is its main: nothing but what it means, and all of it with room and bounds
-- enough, where it ends and where it goes on for ever
abbrev pub IsMeant : Program → ℕ → Amx → Script → ℕ → ℕ → Type 0
IsMeant program function amx script steps sleeps =
    IsTraceOf (meaning program script function) (length amx.code) amx.room
    (steps ∷ replicate sleeps steps) (trace_of amx script steps sleeps)
