-- `run AMX SCRIPT IMAGE`: what it answers, writes and puts, over the files that it reads.
use Rattle.std.specs.Prelude.{◌≡◌, ◌⊎◌, ℕ, ℤ, [], Option, Some}
use Rattle.pawn_outside.specs.Held.{Held}
use Rattle.host_script.specs.declared.event.End.{End}
use Rattle.amx_ops.specs.Keeps.{IsRunnable}
use Rattle.amx_ops.specs.Moves.{Config}
use Rattle.amx_ops.specs.Runs.{Traced}
use Rattle.amx_ops.specs.Trace.{trace_from}
use Rattle.command_parts.specs.declared.status.Status.{Status}
use Rattle.command_parts.specs.declared.stop.Stop.{Stop}
use Rattle.command_parts.specs.declared.program.Program.{Program}
use Rattle.command_parts.specs.declared.command.RunWords.{RunWords}
use Rattle.host_run.specs.Entry.{address_named}
use Rattle.commands.specs.Finishes.{Finishes}
use Rattle.commands.specs.Prepared.{IsServed, NoStart}
use Rattle.commands.specs.Used.{with_used}
use Rattle.command_parts.specs.Program.{IsProgram, NoProgram}
use Rattle.command_parts.specs.Told.{Writes, TellsStop}

-- of a file in its own room, under a script, from an address on, with one bound
abbrev pub program_trace : Program → ℤ → ℕ → Traced Config End
program_trace program address steps =
    trace_from program.file program.file.room program.script address steps []

-- ---- a program

-- it is stopped before its first step: no file is put
pub record IsStopped {S : Type 0} (writes : Writes S) (cause : Stop → Type 0)
    (held after : Option Held) (old new : S) (answer : Status) : Type 0 where
  pub stop : Stop
  pub comes : cause stop
  pub kept : after ≡ held
  pub tells : TellsStop stop writes old new answer

-- the entry of a file that can be run is there and the natives are served, and it ends as its trace
-- does
pub record RunsEntry {S : Type 0} (writes : Writes S) (program : Program) (words : RunWords)
    (held after : Option Held) (old new : S) (answer : Status) : Type 0 where
  pub runnable : IsRunnable program.file
  pub address : ℤ
  pub entry : address_named program.file words.entry ≡ Some address
  pub served : IsServed program
  pub finishes : let trace = program_trace program address words.steps in
      Finishes (with_used words.count trace.steps writes.says) writes held after words.image
      program.digest trace.stop trace.config old new answer

-- it runs, or something keeps it from its start
abbrev pub RunsProgram : {S : Type 0} → Writes S → Program → RunWords → Option Held → Option Held
    → S → S → Status → Type 0
RunsProgram writes program words held after old new answer =
    IsStopped writes (NoStart program words.entry) held after old new answer
    ⊎ RunsEntry writes program words held after old new answer

-- ---- the whole command

-- its files are good, and it runs what they are
pub record RunsGood {S : Type 0} (writes : Writes S) (words : RunWords) (held after : Option Held)
    (old new : S) (answer : Status) : Type 0 where
  pub program : Program
  pub good : IsProgram held words.amx words.script program
  pub runs : RunsProgram writes program words held after old new answer

-- nothing is put where the file or the script isn't good
abbrev pub Runs : {S : Type 0} → Writes S → RunWords → Option Held → Option Held → S → S → Status
    → Type 0
Runs writes words held after old new answer =
    IsStopped writes (NoProgram held words.amx words.script) held after old new answer
    ⊎ RunsGood writes words held after old new answer
