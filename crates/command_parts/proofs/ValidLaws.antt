-- The stops of refusals have their causes.
use Rattle.std.proofs.Common.{◌≡◌, ◌<◌, ℕ, List, Option, None, Some, inl, inr, refl, subst, sym}
use Rattle.std.proofs.Common.{length}
use Rattle.pawn_outside.specs.Held.{Held}
use Rattle.amx_ops.specs.declared.amx.Amx.{Amx}
use Rattle.amx_format.specs.declared.fault.FormatFault.{FormatFault}
use Rattle.amx_format.specs.Faults.{IsFirst}
use Rattle.amx_format.specs.Faults as format
use Rattle.amx_format.specs.File.{IsFile}
use Rattle.amx_verify.specs.declared.fault.VerifyFault.{VerifyFault}
use Rattle.amx_verify.specs.Verdict.{fault_in, Tells}
use Rattle.amx_verify.specs.Verdict as verdict
use Rattle.command_parts.specs.declared.stop.Stop.{Stop}
use Rattle.command_parts.specs.declared.stop.Stop.TheVariants.{NoFile, TooLarge}
use Rattle.command_parts.specs.declared.stop.Stop.TheVariants.{FileFault, NoMemory}
use Rattle.std.proofs.Common.{◌⊎◌, ◌≤◌, ◌≢◌, Ok, Err, Result}
use Rattle.command_parts.specs.declared.read.TheConstants.{FILE_LIMIT}
use Rattle.pawn_outside.specs.Held.{Tells as HeldTells, HoldsThat}
use Rattle.command_parts.specs.Unread.{Unread, missing, too_large, no_memory, IsStopOf}
use Rattle.command_parts.specs.ValidFile.{IsValidFile, IsValidFileOf, IsValidRead, Broken, no_file}
use Rattle.command_parts.specs.ValidFile.{invalid_at, unread_by, unread}
use Rattle.command_parts.specs.ValidFile.{invalid_by, invalid, place_of}
use Rattle.command_parts.proofs.ReadLaws.{read_is, stops_so}

unread_is : (bytes : List ℕ) (cause : FormatFault) (number : Option ℕ) → IsFirst bytes cause
    → format.number_of cause ≡ number
    → IsValidFileOf bytes (Err (unread_by number))
unread_is bytes cause (Some kind) first e =
    inr (no_file kind (record { cause = cause; first = first; number = e }))
unread_is bytes cause None first e = inl refl

pub no_file_is : (bytes : List ℕ) (cause : FormatFault) (stop : Stop) → IsFirst bytes cause
    → stop ≡ unread cause
    → IsValidFileOf bytes (Err stop)
no_file_is bytes cause stop first e =
    let P : Stop → Type 0 = λ s. (s ≡ NoMemory) ⊎ Broken bytes s in
    subst P (sym e) (unread_is bytes cause (format.number_of cause) first refl)

invalid_is : (bytes : List ℕ) (amx : Amx) (cause : VerifyFault) (number : Option ℕ)
    → IsFile bytes amx → Tells cause (fault_in amx)
    → verdict.number_of cause ≡ number
    → IsValidFileOf bytes (Err (invalid_by number (place_of cause)))
invalid_is bytes amx cause (Some kind) file first e =
    inr (invalid_at kind (place_of cause)
    (record { amx = amx; file = file; cause = cause; first = first; number = e; place = refl }))
invalid_is bytes amx cause None file first e = inl refl

pub not_valid_is : (bytes : List ℕ) (amx : Amx) (cause : VerifyFault) (stop : Stop)
    → IsFile bytes amx → Tells cause (fault_in amx)
    → stop ≡ invalid cause → IsValidFileOf bytes (Err stop)
not_valid_is bytes amx cause stop file first e =
    let P : Stop → Type 0 = λ s. (s ≡ NoMemory) ⊎ Broken bytes s in
    subst P (sym e) (invalid_is bytes amx cause (verdict.number_of cause) file first refl)

module _ {held : Option Held} {name : List ℕ} {limit : ℕ} where
  pub missing_is : (stop : Stop) → HeldTells held name None → IsStopOf (NoFile name) stop
      → Unread held name limit stop
  missing_is stop tells (inl e) =
      let P : Stop → Type 0 = Unread held name limit in subst P (sym e) (missing tells)
  missing_is stop tells (inr e) =
      let P : Stop → Type 0 = Unread held name limit in subst P (sym e) no_memory

  pub too_large_is : (stop : Stop) → HoldsThat held name (λ bytes. limit < length bytes)
      → IsStopOf (TooLarge name) stop
      → Unread held name limit stop
  too_large_is stop holds (inl e) =
      let P : Stop → Type 0 = Unread held name limit in subst P (sym e) (too_large holds)
  too_large_is stop holds (inr e) =
      let P : Stop → Type 0 = Unread held name limit in subst P (sym e) no_memory

-- ---- the answers of the calls

pub valid_is : (bytes : List ℕ) (amx verified : Amx) → IsFile bytes amx → fault_in amx ≡ None
    → verified ≡ amx → IsValidFile bytes verified
valid_is bytes amx verified file valid e =
    let P : Amx → Type 0 = IsValidFile bytes in
    subst P (sym e) (record { file = file; valid = valid })

pub named_by : (held : Option Held) (name : List ℕ) {bytes lent : List ℕ}
    (result : Result Amx Stop)
    → HeldTells held name (Some bytes) × (length bytes ≤ FILE_LIMIT) → lent ≡ bytes
    → IsValidFileOf lent result → IsValidRead held name result
named_by held name (Ok amx) tells e it = read_is tells e (λ b. IsValidFile b amx) it
named_by held name (Err stop) tells e it = stops_so tells e (λ b. Broken b stop) stop it

broken_no_fault : {bytes : List ℕ} {stop : Stop} → Broken bytes stop → stop ≢ FileFault
broken_no_fault (no_file kind it) = λ f. absurd (cc f)
broken_no_fault (invalid_at kind at it) = λ f. absurd (cc f)

-- no stop at bytes is a fault of the files
pub bytes_no_fault : {bytes : List ℕ} {stop : Stop} → (stop ≡ NoMemory) ⊎ Broken bytes stop
    → stop ≢ FileFault
bytes_no_fault (inl memory) = λ f. absurd (cc (memory, f))
bytes_no_fault (inr broken) = broken_no_fault broken

pub file_no_fault : (bytes : List ℕ) (result : Result Amx Stop) → IsValidFileOf bytes result
    → result ≡ Err FileFault → ⊥
file_no_fault bytes (Ok amx) it e = absurd (cc e)
file_no_fault bytes (Err stop) it e = bytes_no_fault it (cc e)
