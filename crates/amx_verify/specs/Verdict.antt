-- What the verifier answers: the first fault of a file, with the address of its instruction.
use Rattle.std.specs.Prelude.{◌≡◌, ℕ, Option, None, Some, Result, Ok, Err, length, map}
use Rattle.amx_ops.specs.declared.amx.Amx.{Amx}
use Rattle.amx_ops.specs.Valid.{Fault, Opcode, Cut, Target, CaseTable, Native, Register, ByteCount}
use Rattle.amx_ops.specs.Valid.{Entry, first_fault}
use Rattle.amx_verify.specs.declared.fault.VerifyFault.{VerifyFault}
use Rattle.amx_verify.specs.declared.fault.VerifyFault.TheVariants as answer

-- the first fault of a file's code and entries
abbrev pub fault_in : Amx → Option Fault
fault_in amx =
    first_fault amx.code (length amx.natives) amx.entry (map (λ it. it.address) amx.publics)

-- an answer tells this first fault; want of memory tells of none
abbrev pub Tells : VerifyFault → Option Fault → Type 0
Tells (answer.Opcode at) found = found ≡ Some (Opcode at)
Tells (answer.Cut at) found = found ≡ Some (Cut at)
Tells (answer.Target at) found = found ≡ Some (Target at)
Tells (answer.CaseTable at) found = found ≡ Some (CaseTable at)
Tells (answer.Native at) found = found ≡ Some (Native at)
Tells (answer.Register at) found = found ≡ Some (Register at)
Tells (answer.ByteCount at) found = found ≡ Some (ByteCount at)
Tells (answer.Entry number) found = found ≡ Some (Entry number)
Tells answer.Memory found = Unit {0}

-- Ok exactly where there is no fault
abbrev pub Judges : {T : Type 0} → Result T VerifyFault → Option Fault → Type 0
Judges (Ok t) found = found ≡ None
Judges (Err fault) found = Tells fault found

-- the number of a refusal
abbrev pub number_of : VerifyFault → Option ℕ
number_of (answer.Opcode at) = Some 100
number_of (answer.Cut at) = Some 101
number_of (answer.Target at) = Some 102
number_of (answer.CaseTable at) = Some 103
number_of (answer.Native at) = Some 104
number_of (answer.Register at) = Some 105
number_of (answer.ByteCount at) = Some 106
number_of (answer.Entry number) = Some 107
number_of answer.Memory = None
