-- A file that is read by its name within a limit, and what keeps it from being read.
use Rattle.std.specs.Prelude.{◌≡◌, ◌<◌, ◌≤◌, ◌⊎◌, ℕ, List, Option, None, Some, Result, Ok, Err}
use Rattle.std.specs.Prelude.{length}
use Rattle.pawn_outside.specs.Held.{Held, Tells, HoldsThat}
use Rattle.command_parts.specs.declared.stop.Stop.{Stop}
use Rattle.command_parts.specs.declared.stop.Stop.TheVariants.{NoFile, TooLarge}
use Rattle.command_parts.specs.declared.stop.Stop.TheVariants.{FileFault, NoMemory}

-- bytes by their name that keep this
pub record IsRead (held : Option Held) (name : List ℕ) (limit : ℕ)
    (P : List ℕ → Type 0) : Type 0 where
  pub bytes : List ℕ
  pub tells : Tells held name (Some bytes)
  pub within : length bytes ≤ limit
  pub is : P bytes

-- why nothing is read: the name isn't held, or holds more than the limit; the files failed, or
-- memory was wanting
pub data Unread (held : Option Held) (name : List ℕ) (limit : ℕ) : Stop → Type 0 where
  missing : Tells held name None → Unread held name limit (NoFile name)
  too_large : HoldsThat held name (λ bytes. limit < length bytes)
      → Unread held name limit (TooLarge name)
  failed : Unread held name limit FileFault
  no_memory : Unread held name limit NoMemory

-- what reading answers
abbrev pub AreBytes : Option Held → List ℕ → ℕ → Result (List ℕ) Stop → Type 0
AreBytes held name limit (Ok bytes) = Tells held name (Some bytes) × (length bytes ≤ limit)
AreBytes held name limit (Err stop) = Unread held name limit stop

-- a stop, or want of memory for what it tells
abbrev pub IsStopOf : Stop → Stop → Type 0
IsStopOf meant told = (told ≡ meant) ⊎ (told ≡ NoMemory)
