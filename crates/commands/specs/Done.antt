-- What is good is done: over files that tell what they hold, a command with good words is stopped
-- only by a fault of the files or want of memory, and else ends as its machine does.
use Rattle.std.specs.Prelude.{◌≡◌, ◌⊎◌, ℕ, ℤ, Option, Some}
use Rattle.pawn_outside.specs.Held.{Held}
use Rattle.amx_ops.specs.State.{State}
use Rattle.command_parts.specs.declared.status.Status.{Status}
use Rattle.command_parts.specs.declared.program.Program.{Program}
use Rattle.command_parts.specs.Program.{IsProgram}
use Rattle.command_parts.specs.Told.{Writes}
use Rattle.command_parts.specs.declared.command.RunWords.{RunWords}
use Rattle.host_run.specs.Entry.{address_named}
use Rattle.commands.specs.Prepared.{IsServed}
use Rattle.commands.specs.Runs.{IsStopped, RunsEntry, Runs}
use Rattle.command_parts.specs.declared.command.ResumeWords.{ResumeWords}
use Rattle.commands.specs.Resumes.{GoesOn, Resumes}
use Rattle.commands.specs.Good.{IsFree}
use Rattle.commands.specs.GoodImage.{HoldsImage}

-- the names hold a valid file and a script, the entry is there, and the natives are served
pub record GoodIsRun {S : Type 0} (writes : Writes S) : Type 0 where
  pub done : (map : Held) (after : Option Held) (words : RunWords) (program : Program) (address : ℤ)
      (old new : S) (answer : Status)
      → IsProgram (Some map) words.amx words.script program
      → address_named program.file words.entry ≡ Some address → IsServed program
      → Runs writes words (Some map) after old new answer
      → IsStopped writes IsFree (Some map) after old new answer
      ⊎ RunsEntry writes program words (Some map) after old new answer

-- the names hold a valid file, a script and an image of its machine, and the natives are served
pub record GoodIsResumed {S : Type 0} (writes : Writes S) : Type 0 where
  pub done : (map : Held) (after : Option Held) (words : ResumeWords) (program : Program)
      (s : State) (position : ℕ) (old new : S) (answer : Status)
      → IsProgram (Some map) words.amx words.script program
      → HoldsImage map words.image program s position → IsServed program
      → Resumes writes words (Some map) after old new answer
      → IsStopped writes IsFree (Some map) after old new answer
      ⊎ GoesOn writes program words s position (Some map) after old new answer
