-- Bytes that were put are the valid file of a program, and are read as that.
use Rattle.std.proofs.Common.{◌≡◌, ◌∙◌, inl, inr, ℕ, List, None, Some, Ok, Err, ap, subst}
use Rattle.pawn_meaning.specs.Program.{Program}
use Rattle.amx_ops.specs.declared.amx.Amx.{Amx}
use Rattle.amx_format.specs.declared.encoding.Encoding.{Encoding}
use Rattle.amx_format.specs.declared.fault.FormatFault.{FormatFault}
use Rattle.amx_format.specs.Faults.{IsFirst}
use Rattle.amx_format.specs.Faults as format
use Rattle.amx_format.specs.File.{IsFile}
use Rattle.amx_format.proofs.Determines.{file_determines, one_answer}
use Rattle.amx_verify.specs.declared.fault.VerifyFault.{VerifyFault}
use Rattle.amx_verify.specs.declared.fault.VerifyFault.TheVariants as fault
use Rattle.amx_verify.specs.Verdict.{fault_in, Tells as TellsFault}
use Rattle.amx_verify.specs.Verdict as verdict
use Rattle.pawn_front.specs.Compiled.{HasFile}
use Rattle.command_parts.specs.declared.stop.Stop.{Stop}
use Rattle.command_parts.specs.declared.stop.Stop.TheVariants.{NoMemory}
use Rattle.command_parts.specs.ValidFile.{IsValidFileOf, IsValidFile, Broken, no_file, invalid_at}

-- ---- the bytes of a valid file aren't broken

-- no fault tells of a file that has none
tells_none : (cause : VerifyFault) (kind : ℕ) → TellsFault cause None
    → verdict.number_of cause ≡ Some kind → ⊥
tells_none (fault.Opcode at) kind tells e = absurd (cc tells)
tells_none (fault.Cut at) kind tells e = absurd (cc tells)
tells_none (fault.Target at) kind tells e = absurd (cc tells)
tells_none (fault.CaseTable at) kind tells e = absurd (cc tells)
tells_none (fault.Native at) kind tells e = absurd (cc tells)
tells_none (fault.Register at) kind tells e = absurd (cc tells)
tells_none (fault.ByteCount at) kind tells e = absurd (cc tells)
tells_none (fault.Entry number) kind tells e = absurd (cc tells)
tells_none fault.Memory kind tells e = absurd (cc e)

module _ {bytes : List ℕ} (amx : Amx) (it : IsValidFile bytes amx) where
  read_so : (cause : FormatFault) (kind : ℕ) → IsFirst bytes cause
      → format.number_of cause ≡ Some kind → ⊥
  read_so cause kind first e =
      let same =
      one_answer bytes (Err cause) (Ok amx) first it.file (λ k. absurd (cc k))
      (λ k. absurd (cc (k, e))) in
      absurd (cc same)

  valid_so : (other : Amx) (cause : VerifyFault) (kind : ℕ) → IsFile bytes other
      → TellsFault cause (fault_in other)
      → verdict.number_of cause ≡ Some kind → ⊥
  valid_so other cause kind file tells e =
      let none : fault_in other ≡ None =
      ap fault_in (file_determines bytes other amx file it.file) ∙ it.valid in
      tells_none cause kind (subst (TellsFault cause) none tells) e

  pub not_broken : {stop : Stop} → Broken bytes stop → ⊥
  not_broken (no_file kind bad) = read_so bad.cause kind bad.first bad.number
  not_broken (invalid_at kind at bad) =
      valid_so bad.amx bad.cause kind bad.file bad.first bad.number

  -- only want of memory stops its reading
  pub only_memory : (stop : Stop) → IsValidFileOf bytes (Err stop) → stop ≡ NoMemory
  only_memory stop (inl memory) = memory
  only_memory stop (inr broken) = absurd (not_broken broken)

  pub same_file : (read : Amx) → IsValidFileOf bytes (Ok read) → read ≡ amx
  same_file read valid = file_determines bytes read amx valid.file it.file

-- the file of a program is valid
pub made_valid : {program : Program} {encoding : Encoding} {bytes : List ℕ}
    (it : HasFile program encoding bytes) → IsValidFile bytes it.amx
made_valid it = record { file = it.file; valid = it.agrees.shape.valid }
