-- Bytes that are a valid file, and the number and the place of what keeps them from being one.
use Rattle.std.specs.Prelude.{◌≡◌, ◌⊎◌, ℕ, ℤ, pos, List, Option, None, Some, Result, Ok, Err}
use Rattle.pawn_outside.specs.Held.{Held}
use Rattle.amx_ops.specs.declared.amx.Amx.{Amx}
use Rattle.amx_format.specs.declared.fault.FormatFault.{FormatFault}
use Rattle.amx_format.specs.Faults.{IsFirst}
use Rattle.amx_format.specs.Faults as format
use Rattle.amx_format.specs.File.{IsFile}
use Rattle.amx_verify.specs.declared.fault.VerifyFault.{VerifyFault}
use Rattle.amx_verify.specs.declared.fault.VerifyFault.TheVariants as fault
use Rattle.amx_verify.specs.Verdict.{fault_in, Tells}
use Rattle.amx_verify.specs.Verdict as verdict
use Rattle.command_parts.specs.declared.stop.Stop.{Stop}
use Rattle.command_parts.specs.declared.stop.Stop.TheVariants.{Invalid, InvalidAt, NoMemory}
use Rattle.command_parts.specs.declared.read.TheConstants.{FILE_LIMIT}
use Rattle.command_parts.specs.Unread.{IsRead, Unread}

-- bytes that are the file of an Amx without a fault
pub record IsValidFile (bytes : List ℕ) (amx : Amx) : Type 0 where
  pub file : IsFile bytes amx
  pub valid : fault_in amx ≡ None

-- the address of an instruction, or the number of an entry, where a file isn't valid
abbrev pub place_of : VerifyFault → ℤ
place_of (fault.Opcode at) = pos at
place_of (fault.Cut at) = pos at
place_of (fault.Target at) = pos at
place_of (fault.CaseTable at) = pos at
place_of (fault.Native at) = pos at
place_of (fault.Register at) = pos at
place_of (fault.ByteCount at) = pos at
place_of (fault.Entry number) = number
place_of fault.Memory = pos 0

-- bytes that are no file, for the first cause in the reader's order, with its number
pub record IsNoFile (bytes : List ℕ) (kind : ℕ) : Type 0 where
  pub cause : FormatFault
  pub first : IsFirst bytes cause
  pub number : format.number_of cause ≡ Some kind

-- bytes of a file that isn't valid, for the first cause in the verifier's order, with its number
-- and its place
pub record IsInvalid (bytes : List ℕ) (kind : ℕ) (at : ℤ) : Type 0 where
  pub amx : Amx
  pub file : IsFile bytes amx
  pub cause : VerifyFault
  pub first : Tells cause (fault_in amx)
  pub number : verdict.number_of cause ≡ Some kind
  pub place : at ≡ place_of cause

-- bytes are no valid file
pub data Broken (bytes : List ℕ) : Stop → Type 0 where
  no_file : (kind : ℕ) → IsNoFile bytes kind → Broken bytes (Invalid kind)
  invalid_at : (kind : ℕ) (at : ℤ) → IsInvalid bytes kind at → Broken bytes (InvalidAt kind at)

-- the file isn't read, or isn't valid
abbrev pub NoFile : Option Held → List ℕ → Stop → Type 0
NoFile held name stop =
    Unread held name FILE_LIMIT stop ⊎ IsRead held name FILE_LIMIT (λ bytes. Broken bytes stop)

-- ---- what the calls answer

-- bytes read as a file: the file that they are, else why they are none
abbrev pub IsValidFileOf : List ℕ → Result Amx Stop → Type 0
IsValidFileOf bytes (Ok amx) = IsValidFile bytes amx
IsValidFileOf bytes (Err stop) = (stop ≡ NoMemory) ⊎ Broken bytes stop

-- the same of the bytes that a name is read to
abbrev pub IsValidRead : Option Held → List ℕ → Result Amx Stop → Type 0
IsValidRead held name (Ok amx) = IsRead held name FILE_LIMIT (λ bytes. IsValidFile bytes amx)
IsValidRead held name (Err stop) = NoFile held name stop

-- the stop of a refusal with this number, or want of memory
abbrev pub unread_by : Option ℕ → Stop
unread_by (Some kind) = Invalid kind
unread_by None = NoMemory

-- the stop of bytes that are no file
abbrev pub unread : FormatFault → Stop
unread cause = unread_by (format.number_of cause)

-- the stop of a file that isn't valid, by the number and place of the cause
abbrev pub invalid_by : Option ℕ → ℤ → Stop
invalid_by (Some kind) at = InvalidAt kind at
invalid_by None at = NoMemory

-- the stop of a file that the verifier refuses
abbrev pub invalid : VerifyFault → Stop
invalid cause = invalid_by (verdict.number_of cause) (place_of cause)
