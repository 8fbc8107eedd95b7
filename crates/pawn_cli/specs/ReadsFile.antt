-- `verify AMX` and `list AMX`: what they answer and write, over the file that they read.
use Rattle.std.specs.Prelude.{◌≡◌, ◌⊎◌, ℕ, List, Option, codes}
use Rattle.pawn_outside.specs.Held.{Held}
use Rattle.amx_ops.specs.declared.amx.Amx.{Amx}
use Rattle.amx_text.specs.Listing.{listing}
use Rattle.command_parts.specs.declared.status.Status.{Status}
use Rattle.command_parts.specs.declared.status.Status.TheVariants as status
use Rattle.command_parts.specs.declared.read.TheConstants.{FILE_LIMIT}
use Rattle.command_parts.specs.Unread.{IsRead}
use Rattle.command_parts.specs.ValidFile.{IsValidFile, NoFile}
use Rattle.command_parts.specs.Told.{Told, Writes, status_told}
use Rattle.commands.specs.Runs.{IsStopped}

-- the file is valid, and a text of it was written, or a front of it
pub record TellsFile {S : Type 0} (text_of : Amx → List ℕ) (writes : Writes S) (name : List ℕ)
    (held after : Option Held) (old new : S) (answer : Status) : Type 0 where
  pub amx : Amx
  pub valid : IsRead held name FILE_LIMIT (λ bytes. IsValidFile bytes amx)
  pub kept : after ≡ held
  pub told : Told
  pub written : writes.says old new (text_of amx) told
  pub is : answer ≡ status_told status.Ok told

-- it isn't read or isn't valid, and the line of the stop is told; or it is
abbrev pub ReadsFile : {S : Type 0} → (Amx → List ℕ) → Writes S → List ℕ → Option Held → Option Held
    → S → S → Status → Type 0
ReadsFile text_of writes name held after old new answer =
    IsStopped writes (NoFile held name) held after old new answer
    ⊎ TellsFile text_of writes name held after old new answer

-- `verify`
abbrev pub Verifies : {S : Type 0} → Writes S → List ℕ → Option Held → Option Held → S → S → Status
    → Type 0
Verifies writes name held after old new answer =
    ReadsFile (λ amx. codes "valid\n") writes name held after old new answer

-- `list`
abbrev pub Lists : {S : Type 0} → Writes S → List ℕ → Option Held → Option Held → S → S → Status
    → Type 0
Lists writes name held after old new answer =
    ReadsFile listing writes name held after old new answer
