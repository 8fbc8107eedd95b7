-- What assembling a text answers: the valid file that is listed with it, or the first fault of the
-- text. Want of memory is free.
use Rattle.std.specs.Prelude.{◌≡◌, ◌≢◌, ℕ, List, None, Result, Ok, Err, IsTrue}
use Rattle.amx_ops.specs.declared.amx.Amx.{Amx}
use Rattle.amx_format.specs.Sorts.{IsWritableSorted}
use Rattle.amx_verify.specs.Verdict.{fault_in}
use Rattle.amx_text.specs.declared.fault.AsmFault.{AsmFault}
use Rattle.amx_text.specs.declared.fault.AsmFault.TheVariants.{Form, Memory}
use Rattle.amx_text.specs.Faults.{is_within, HasFault}
use Rattle.amx_text.specs.Listed.{FieldsFit, IsListed}
use Rattle.amx_text.specs.Listing.{header_of, listing}
use Rattle.amx_text.specs.Texts.{BreaksAt}

-- a valid file within the limits that is listed with the text
pub record IsAssembled (text : List ℕ) (amx : Amx) : Type 0 where
  pub listed : IsListed amx text
  pub within : IsTrue (is_within (header_of amx) amx)
  pub valid : fault_in amx ≡ None

-- an answer agrees with the text
abbrev pub Assembles : List ℕ → Result Amx AsmFault → Type 0
Assembles text (Ok amx) = IsAssembled text amx
Assembles text (Err (Form line)) = BreaksAt text line
Assembles text (Err Memory) = Unit {0}
Assembles text (Err fault) = HasFault text fault

-- but for want of memory a text has one answer at most
abbrev pub ATextHasOneAnswer : Type 0
ATextHasOneAnswer =
    (text : List ℕ) (a b : Result Amx AsmFault) → Assembles text a → Assembles text b
    → a ≢ Err Memory → b ≢ Err Memory → a ≡ b

-- the listing of a valid file that can be written is assembled to that file, unless memory runs out
abbrev pub WhatIsListedIsAssembled : Type 0
WhatIsListedIsAssembled =
    (amx : Amx) → FieldsFit amx → IsWritableSorted amx → fault_in amx ≡ None
    → (answer : Result Amx AsmFault) → Assembles (listing amx) answer → answer ≢ Err Memory
    → answer ≡ Ok amx
