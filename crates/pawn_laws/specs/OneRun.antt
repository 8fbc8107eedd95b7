-- A run and its resumes are one trace of a file.
use Rattle.std.specs.Prelude.{◌≡◌, ℕ, ℤ, List, ◌∷◌, Some, length, map}
use Rattle.host_script.specs.declared.script.Script.{Script}
use Rattle.host_script.specs.declared.event.End.{End}
use Rattle.amx_ops.specs.declared.amx.Amx.{Amx}
use Rattle.amx_ops.specs.Moves.{Config}
use Rattle.amx_ops.specs.Runs.{Traced}
use Rattle.amx_ops.specs.Trace.{trace_from}
use Rattle.gen_agrees.specs.AgreesOn.{Meanings}
use Rattle.run_laws.specs.TraceOf.{IsTraceOf}
use Rattle.command_parts.specs.Told.{Writes}
use Rattle.host_run.specs.Entry.{address_named}
use Rattle.commands.specs.Finishes.{run_text, status_of_stop}
use Rattle.pawn_laws.specs.Calls.{Call, WroteTogether, last_answer}

-- their bounds on steps
abbrev pub bounds_of : {S : Type 0} → List (Call S) → List ℕ
bounds_of calls = map (λ call. call.steps) calls

-- the trace of a file in its own room, under a script, from an address on, over the bounds of calls
abbrev pub trace_over : {S : Type 0} → Amx → Script → ℤ → Call S → List (Call S) → Traced Config End
trace_over amx script address run resumes =
    trace_from amx amx.room script address run.steps (bounds_of resumes)

-- from an entry on they write its text and end as it does, and it is a trace of a meaning
pub record IsOneRun {S : Type 0} (writes : Writes S) (means : Meanings) (amx : Amx)
    (script : Script) (entry : List ℕ) (run : Call S) (resumes : List (Call S)) : Type 0 where
  pub address : ℤ
  pub there : address_named amx entry ≡ Some address
  pub text : let t = trace_over amx script address run resumes in
      WroteTogether writes (run ∷ resumes) (run_text t.config t.stop)
  pub answer : last_answer run resumes
      ≡ status_of_stop (trace_over amx script address run resumes).stop
  pub meant : IsTraceOf means (length amx.code) amx.room (run.steps ∷ bounds_of resumes)
      (trace_over amx script address run resumes)
