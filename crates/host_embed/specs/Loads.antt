-- Bytes that are a valid file have a machine in its first state; else their first fault is told.
use Rattle.std.specs.Prelude.{◌≡◌, ℕ, ℤ, pos, List, [], Option, None, Some, Result, Ok, Err, take}
use Rattle.sha2.specs.Sha256.{sha256}
use Rattle.amx_ops.specs.declared.amx.Amx.{Amx}
use Rattle.amx_format.specs.Header.{header_of}
use Rattle.amx_format.specs.Faults.{IsFirst}
use Rattle.amx_format.specs.Faults as format
use Rattle.amx_format.specs.File.{IsFile}
use Rattle.amx_verify.specs.declared.fault.VerifyFault.{VerifyFault}
use Rattle.amx_verify.specs.declared.fault.VerifyFault.TheVariants as invalid
use Rattle.amx_verify.specs.Verdict.{fault_in, Tells}
use Rattle.amx_verify.specs.Verdict as verdict
use Rattle.amx_machine.specs.Machine.{first}
use Rattle.host_embed.specs.declared.load_fault.LoadFault.{LoadFault}
use Rattle.host_embed.specs.declared.load_fault.LoadFault.TheVariants as fault
use Rattle.host_embed.specs.Held.{Held}

-- of so many bytes of a file as its header counts
abbrev pub digest_of : List ℕ → List ℕ
digest_of bytes = sha256 (take (header_of bytes).size bytes)

-- the machine of a file in its first state
abbrev pub first_of : List ℕ → Amx → Held
first_of bytes amx = record { machine = first amx; digest = digest_of bytes; image = [] }

-- the machine of the valid file that the bytes are, or their first fault
abbrev pub Loads : List ℕ → Result Held LoadFault → Type 0
Loads bytes (Ok held) =
    (amx : Amx) × IsFile bytes amx × (fault_in amx ≡ None) × (held ≡ first_of bytes amx)
Loads bytes (Err (fault.Format cause)) = IsFirst bytes cause
Loads bytes (Err (fault.Invalid cause)) =
    (amx : Amx) × IsFile bytes amx × Tells cause (fault_in amx)
Loads bytes (Err fault.Memory) = Unit {0}

-- the machine stands in a slot, which else is as it was
abbrev pub LoadsInto :
    {T : Type 0} → List ℕ → Option Held → Result T LoadFault → Option Held → Type 0
LoadsInto bytes old (Ok t) new = (held : Held) × Loads bytes (Ok held) × (new ≡ Some held)
LoadsInto bytes old (Err fault) new = Loads bytes (Err fault) × (new ≡ old)

-- 15 for want of memory
abbrev pub number_by : Option ℕ → ℤ
number_by (Some number) = pos number
number_by None = pos 15

-- the number of a fault
abbrev pub number_of : LoadFault → ℤ
number_of (fault.Format cause) = number_by (format.number_of cause)
number_of (fault.Invalid cause) = number_by (verdict.number_of cause)
number_of fault.Memory = pos 15

-- the address of an instruction, or the number of an entry, where a file isn't valid
abbrev pub place_in : VerifyFault → ℤ
place_in (invalid.Opcode at) = pos at
place_in (invalid.Cut at) = pos at
place_in (invalid.Target at) = pos at
place_in (invalid.CaseTable at) = pos at
place_in (invalid.Native at) = pos at
place_in (invalid.Register at) = pos at
place_in (invalid.ByteCount at) = pos at
place_in (invalid.Entry number) = number
place_in invalid.Memory = pos 0

-- of a fault; 0 where it has none
abbrev pub place_of : LoadFault → ℤ
place_of (fault.Format cause) = pos 0
place_of (fault.Invalid cause) = place_in cause
place_of fault.Memory = pos 0
