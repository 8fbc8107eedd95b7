-- A file that a command puts at a name, and the text that it tells behind it.
use Rattle.std.specs.Prelude.{◌≡◌, ◌⊎◌, ℕ, List, Option}
use Rattle.pawn_outside.specs.Held.{Held, with_put}
use Rattle.command_parts.specs.declared.status.Status.{Status}
use Rattle.command_parts.specs.declared.status.Status.TheVariants as status
use Rattle.command_parts.specs.declared.stop.Stop.{Stop}
use Rattle.command_parts.specs.Put.{NotPut}
use Rattle.command_parts.specs.Told.{Told, Writes, TellsStop, status_told}

-- it isn't put at its name, and the line of the stop is told
pub record Unput {S : Type 0} (writes : Writes S) (name : List ℕ) (held after : Option Held)
    (old new : S) (answer : Status) : Type 0 where
  pub stop : Stop
  pub comes : NotPut held after name stop
  pub tells : TellsStop stop writes old new answer

-- these bytes are put, and the text is told, or a front of it
pub record IsPutTold {S : Type 0} (writes : Writes S) (bytes text name : List ℕ)
    (held after : Option Held) (old new : S) (answer : Status) : Type 0 where
  pub kept : after ≡ with_put held name bytes
  pub told : Told
  pub written : writes.says old new text told
  pub is : answer ≡ status_told status.Ok told

-- either of both
abbrev pub PutsFile : {S : Type 0} → Writes S → List ℕ → List ℕ → List ℕ → Option Held
    → Option Held → S → S → Status → Type 0
PutsFile writes bytes text name held after old new answer =
    Unput writes name held after old new answer
    ⊎ IsPutTold writes bytes text name held after old new answer
