-- The listing of a valid file is assembled by `assemble`, but for a fault of the files or want of
-- memory, and the file that is put is what the writer makes of that file.
use Rattle.std.specs.Prelude.{◌⊎◌, ◌≡◌, ◌≤◌, None, Option, Some, length}
use Rattle.pawn_outside.specs.Held.{Held, Tells}
use Rattle.amx_ops.specs.declared.amx.Amx.{Amx}
use Rattle.amx_format.specs.Sorts.{IsWritableSorted}
use Rattle.amx_verify.specs.Verdict.{fault_in}
use Rattle.amx_text.specs.Listed.{FieldsFit}
use Rattle.amx_text.specs.Listing.{listing}
use Rattle.command_parts.specs.declared.command.AssembleWords.{AssembleWords}
use Rattle.command_parts.specs.declared.read.TheConstants.{SOURCE_LIMIT}
use Rattle.command_parts.specs.declared.status.Status.{Status}
use Rattle.command_parts.specs.Told.{Writes}
use Rattle.commands.specs.Assembles.{Assembles, AssemblesGood}
use Rattle.commands.specs.Good.{IsFree}
use Rattle.commands.specs.Runs.{IsStopped}

-- a file that can be written and is valid, whose listing a name holds within its limit
pub record HoldsListing (map : Held) (words : AssembleWords) (amx : Amx) : Type 0 where
  pub fields : FieldsFit amx
  pub writable : IsWritableSorted amx
  pub valid : fault_in amx ≡ None
  pub small : length (listing amx) ≤ SOURCE_LIMIT
  pub held : Tells (Some map) words.text (Some (listing amx))

-- what is made is made of that file
pub record AssemblesFile {S : Type 0} (writes : Writes S) (words : AssembleWords) (amx : Amx)
    (held after : Option Held) (old new : S) (answer : Status) : Type 0 where
  pub good : AssemblesGood writes words held after old new answer
  pub same : good.made.is.amx ≡ amx

-- over files that tell what they hold
pub record GoodIsAssembled {S : Type 0} (writes : Writes S) : Type 0 where
  pub done : (map : Held) (after : Option Held) (words : AssembleWords) (amx : Amx) (old new : S)
      (answer : Status) → HoldsListing map words amx
      → Assembles writes words (Some map) after old new answer
      → IsStopped writes IsFree (Some map) after old new answer
      ⊎ AssemblesFile writes words amx (Some map) after old new answer
