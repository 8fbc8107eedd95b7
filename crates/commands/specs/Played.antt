-- The trace of a file from its main, and how a command tells it.
use Rattle.std.specs.Prelude.{◌≡◌, ℕ, replicate}
use Rattle.host_script.specs.declared.script.Script.{Script}
use Rattle.host_script.specs.declared.event.End.{End}
use Rattle.amx_ops.specs.declared.amx.Amx.{Amx}
use Rattle.amx_ops.specs.Moves.{Config}
use Rattle.amx_ops.specs.Runs.{Traced}
use Rattle.amx_ops.specs.Trace.{trace_from}
use Rattle.command_parts.specs.declared.status.Status.{Status}
use Rattle.command_parts.specs.Told.{Told, Says, status_told}
use Rattle.commands.specs.Finishes.{run_text, status_of_stop}

-- in its own room, with so many steps in each segment, going on behind so many sleeps
abbrev pub trace_of : Amx → Script → ℕ → ℕ → Traced Config End
trace_of amx script steps sleeps =
    trace_from amx amx.room script amx.entry steps (replicate sleeps steps)

-- its text was written, or a front of it, and the status is that of its stop
pub record TellsTrace {S : Type 0} (t : Traced Config End) (says : Says S) (old new : S)
    (answer : Status) : Type 0 where
  pub told : Told
  pub written : says old new (run_text t.config t.stop) told
  pub is : answer ≡ status_told (status_of_stop t.stop) told
