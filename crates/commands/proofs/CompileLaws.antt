-- A source that is good is compiled, but for a fault of the files or want of memory.
use Rattle.std.proofs.Common.{◌⊎◌, List, Option, Some, inl, inr}
use Rattle.pawn_outside.specs.Held.{Held}
use Rattle.pawn_meaning.specs.Program.{Program}
use Rattle.pawn_front.specs.declared.compiled.Warning.{Warning}
use Rattle.pawn_front.specs.Means.{Means}
use Rattle.command_parts.specs.declared.status.Status.{Status}
use Rattle.command_parts.specs.Told.{Writes}
use Rattle.command_parts.specs.declared.command.CompileWords.{CompileWords}
use Rattle.commands.specs.Compiles.{Compiles, CompilesGood}
use Rattle.commands.specs.Runs.{IsStopped}
use Rattle.commands.specs.Good.{IsFree}
use Rattle.commands.specs.GoodCompile.{GoodIsCompiled}
use Rattle.commands.proofs.DoneLaws.{freely}
use Rattle.commands.proofs.SourceGoLaws.{good_sources}

module _ {S : Type 0} (writes : Writes S) (map : Held) (after : Option Held) (words : CompileWords)
    (old new : S) (answer : Status) where
  compiled : (program : Program) (warnings : List Warning)
      → Means (Some map) words.src program warnings
      → Compiles writes words (Some map) after old new answer
      → IsStopped writes IsFree (Some map) after old new answer
      ⊎ CompilesGood writes words (Some map) after old new answer
  compiled program warnings means (inl early) =
      inl (freely (λ stop none. good_sources.made map words.src program warnings stop means
      none) early)
  compiled program warnings means (inr it) = inr it

pub good_is_compiled : {S : Type 0} (writes : Writes S) → GoodIsCompiled writes
good_is_compiled writes = record {
  done =
      λ map after words program warnings old new answer means it. compiled writes map after words
      old new answer program warnings means it;
}
