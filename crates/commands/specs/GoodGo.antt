-- What is good is compiled, put and run by `go`, but for a fault of the files or want of memory.
use Rattle.std.specs.Prelude.{◌≡◌, ◌⊎◌, ℕ, List, Option, Some}
use Rattle.pawn_outside.specs.Held.{Held, with_put}
use Rattle.host_script.specs.declared.script.Script.{Script}
use Rattle.pawn_meaning.specs.Program.{Program}
use Rattle.pawn_front.specs.declared.compiled.Warning.{Warning}
use Rattle.pawn_front.specs.Means.{Means}
use Rattle.gen_agrees.specs.Agrees.{Serves}
use Rattle.command_parts.specs.declared.status.Status.{Status}
use Rattle.command_parts.specs.declared.stop.Stop.TheVariants.{NoMemory}
use Rattle.command_parts.specs.Told.{Writes, TellsLine}
use Rattle.commands.specs.PutFile.{Unput}
use Rattle.commands.specs.Lines.{warning_lines}
use Rattle.commands.specs.Runs.{IsStopped}
use Rattle.command_parts.specs.declared.command.GoWords.{GoWords}
use Rattle.commands.specs.Goes.{Goes, GoesGood, behind}
use Rattle.commands.specs.Natives.{HasNatives}
use Rattle.commands.specs.RunsFile.{TellsRun}
use Rattle.commands.specs.Good.{IsFree}

-- a source that has a program with a main, all of whose natives a script serves
pub record IsServedSource (held : Held) (src : List ℕ) (script : Script) : Type 0 where
  pub program : Program
  pub warnings : List Warning
  pub means : Means (Some held) src program warnings
  pub main : ℕ
  pub entry : program.entry ≡ Some main
  pub serves : Serves script program.natives

-- it goes; its file wasn't put, or it was, and behind the warnings its trace is told, but for want
-- of memory before its start
pub record IsGone {S : Type 0} (writes : Writes S) (words : GoWords) (held after : Option Held)
    (old new : S) (answer : Status) : Type 0 where
  pub it : GoesGood writes words held after old new answer
  pub comes : Unput writes words.amx held after old new answer
      ⊎ ((after ≡ with_put held words.amx it.prepared.compiled.bytes)
      × (TellsLine NoMemory (behind (warning_lines it.prepared.compiled.warnings) writes.says) old
      new answer
      ⊎ TellsRun (behind (warning_lines it.prepared.compiled.warnings) writes.says)
      it.good.made.has.amx it.prepared.script words old new answer))

-- over files that tell what they hold
pub record GoodIsGone {S : Type 0} (writes : Writes S) : Type 0 where
  pub done : (map : Held) (after : Option Held) (words : GoWords) (script : Script) (old new : S)
      (answer : Status)
      → IsServedSource map words.src script → HasNatives (Some map) words.script script
      → Goes writes words (Some map) after old new answer
      → IsStopped writes IsFree (Some map) after old new answer
      ⊎ IsGone writes words (Some map) after old new answer
