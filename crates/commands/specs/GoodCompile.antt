-- A source that has a program is compiled by `compile`, but for a fault of the files or want of
-- memory.
use Rattle.std.specs.Prelude.{◌⊎◌, Option, List, Some}
use Rattle.pawn_outside.specs.Held.{Held}
use Rattle.pawn_meaning.specs.Program.{Program}
use Rattle.pawn_front.specs.declared.compiled.Warning.{Warning}
use Rattle.pawn_front.specs.Means.{Means}
use Rattle.command_parts.specs.declared.status.Status.{Status}
use Rattle.command_parts.specs.Told.{Writes}
use Rattle.command_parts.specs.declared.command.CompileWords.{CompileWords}
use Rattle.commands.specs.Compiles.{Compiles, CompilesGood}
use Rattle.commands.specs.Runs.{IsStopped}
use Rattle.commands.specs.Good.{IsFree}

-- over files that tell what they hold
pub record GoodIsCompiled {S : Type 0} (writes : Writes S) : Type 0 where
  pub done : (map : Held) (after : Option Held) (words : CompileWords) (program : Program)
      (warnings : List Warning) (old new : S) (answer : Status)
      → Means (Some map) words.src program warnings
      → Compiles writes words (Some map) after old new answer
      → IsStopped writes IsFree (Some map) after old new answer
      ⊎ CompilesGood writes words (Some map) after old new answer
