-- A file that is run from its main: what keeps it from its start is told, or its trace is.
use Rattle.std.specs.Prelude.{◌≡◌, Some}
use Rattle.host_script.specs.declared.script.Script.{Script}
use Rattle.amx_ops.specs.declared.amx.Amx.{Amx}
use Rattle.amx_ops.specs.Trace.{Main, address_of}
use Rattle.command_parts.specs.declared.status.Status.{Status}
use Rattle.command_parts.specs.declared.stop.Stop.{Stop}
use Rattle.command_parts.specs.declared.command.GoWords.{GoWords}
use Rattle.command_parts.specs.Told.{Says, TellsLine}
use Rattle.commands.specs.Played.{TellsTrace, trace_of}
use Rattle.commands.specs.ReadyFile.{NotReady}
use Rattle.commands.specs.Served.{AreServed}
use Rattle.commands.specs.Used.{with_used}

-- its trace is told, with the steps of all its segments where they are asked for
abbrev pub TellsRun : {S : Type 0} → Says S → Amx → Script → GoWords → S → S → Status → Type 0
TellsRun says amx script words old new answer =
    let t = trace_of amx script words.steps words.sleeps in
    TellsTrace t (with_used words.count t.steps says) old new answer

-- with so many steps in each segment, and so many sleeps from which it goes on, as the words say
pub data RunsFile {S : Type 0} (says : Says S) (amx : Amx) (script : Script) (words : GoWords)
    (old new : S) (answer : Status) : Type 0 where
  stopped : (stop : Stop) → NotReady amx script stop → TellsLine stop says old new answer
      → RunsFile says amx script words old new answer
  ran : address_of amx Main ≡ Some amx.entry → AreServed amx script
      → TellsRun says amx script words old new answer
      → RunsFile says amx script words old new answer
