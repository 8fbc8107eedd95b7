-- A run, and how it is told with its counts: the cells of the code, and the steps that were
-- done.
use Rattle.std.specs.Prelude.{◌≡◌, ◌++◌, ℕ, ℤ, List, [], Option, None, Some, codes}
use Rattle.std.specs.Fmt.{decimal}
use Rattle.host_script.specs.Script.{plain}
use Rattle.host_script.specs.declared.event.End.{End}
use Rattle.amx_ops.specs.declared.amx.Amx.{Amx}
use Rattle.amx_ops.specs.Moves.{Config}
use Rattle.amx_ops.specs.Runs.{Traced}
use Rattle.host_run.specs.Session.{told}
use Rattle.host_run.specs.Trace.{StopsAs, told_text}
use Rattle.host_run.specs.declared.end.SessionEnd.{SessionEnd}
use Rattle.host_run.specs.declared.end.SessionEnd.TheVariants as session
use Rattle.command_parts.specs.declared.status.Status.{Status}
use Rattle.command_parts.specs.declared.status.Status.TheVariants as status
use Rattle.command_parts.specs.Told.{Says}
use Rattle.commands.specs.Played.{TellsTrace, trace_of}

-- the lines of both counts
abbrev pub counts_text : ℕ → ℕ → List ℕ
counts_text cells steps =
    codes "cells " ++ (decimal cells ++ (codes "\nused " ++ (decimal steps ++ codes "\n")))

-- what is written in front of a text
abbrev pub before : {S : Type 0} → List ℕ → Says S → Says S
before back says = λ old new text told. says old new (text ++ back) told

-- the trace of a file from its main under the plain script, in one segment
abbrev pub sample_trace : Amx → ℕ → Traced Config End
sample_trace amx steps = trace_of amx plain steps 0

-- its text was written with the counts behind it, or a front of that
abbrev pub TellsCounted : {S : Type 0} → Says S → ℕ → Traced Config End → S → S → Status → Type 0
TellsCounted says cells t old new answer =
    TellsTrace t (before (counts_text cells t.steps) says) old new answer

-- ---- what the calls answer

-- so many steps were done, but where the sink failed nothing is told of it
abbrev pub HasCount : ℕ → ℕ → SessionEnd → Type 0
HasCount steps count (session.Done value) = count ≡ steps
HasCount steps count (session.Exit value tag) = count ≡ steps
HasCount steps count (session.Error code) = count ≡ steps
HasCount steps count (session.Asleep value tag) = count ≡ steps
HasCount steps count session.Steps = count ≡ steps
HasCount steps count session.SinkFault = Unit {0}

-- a trace was run, and its text written but for the line of a bound that is used up
pub record RunsTrace {S : Type 0} (says : Says S) (t : Traced Config End) (old new : S)
    (count : ℕ) (end : SessionEnd) : Type 0 where
  pub written : says old new (told_text t) (told end)
  pub stop : StopsAs t.stop end
  pub steps : HasCount t.steps count end

-- the line that a session leaves to its caller
abbrev pub rest_of : SessionEnd → List ℕ
rest_of (session.Done value) = []
rest_of (session.Exit value tag) = []
rest_of (session.Error code) = []
rest_of (session.Asleep value tag) = []
rest_of session.Steps = codes "steps\n"
rest_of session.SinkFault = []

-- the status of a run, unless the sink failed
abbrev pub status_by : SessionEnd → Option Status
status_by (session.Done value) = Some status.Ok
status_by (session.Exit value tag) = Some status.Ok
status_by (session.Error code) = Some status.Ended
status_by (session.Asleep value tag) = Some status.Asleep
status_by session.Steps = Some status.Steps
status_by session.SinkFault = None

-- the line of an error was written, or a front of it
abbrev pub IsErrorTold : ℤ → SessionEnd → Type 0
IsErrorTold code (session.Done value) = ⊥
IsErrorTold code (session.Exit value tag) = ⊥
IsErrorTold code (session.Error told) = told ≡ code
IsErrorTold code (session.Asleep value tag) = ⊥
IsErrorTold code session.Steps = ⊥
IsErrorTold code session.SinkFault = Unit {0}
