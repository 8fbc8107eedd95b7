-- What writing an Amx answers: its publics are sorted, and the bytes are the layout of what comes
-- out, and its file.
use Rattle.std.specs.Prelude.{◌≡◌, ◌≢◌, ℕ, List, Result, Ok, Err}
use Rattle.amx_ops.specs.declared.amx.Amx.{Amx}
use Rattle.amx_ops.specs.declared.amx.Record.{Record}
use Rattle.amx_ops.specs.Writable.{IsWritable}
use Rattle.amx_format.specs.declared.encoding.Encoding.{Encoding}
use Rattle.amx_format.specs.declared.fault.FormatFault.{FormatFault}
use Rattle.amx_format.specs.declared.fault.FormatFault.TheVariants.{Memory}
use Rattle.amx_format.specs.File.{IsFile, Answers}
use Rattle.amx_format.specs.Layout.{IsLayout}
use Rattle.amx_format.specs.Sorts.{Sorts, with_publics}

-- the bytes that the writer makes
pub record IsWritten (encoding : Encoding) (amx : Amx) (bytes : List ℕ) : Type 0 where
  pub publics : List Record
  pub sorts : Sorts amx.publics publics
  pub layout : IsLayout encoding (with_publics amx publics) bytes
  pub file : IsFile bytes (with_publics amx publics)

-- reading what was written answers the Amx that was written, with its publics sorted, or want of
-- memory
abbrev pub WhatIsWrittenIsRead : Type 0
WhatIsWrittenIsRead =
    (encoding : Encoding) (amx : Amx) (bytes : List ℕ) (it : IsWritten encoding amx bytes)
    (answer : Result Amx FormatFault) → Answers bytes answer
    → answer ≢ Err Memory → answer ≡ Ok (with_publics amx it.publics)

-- what is written of an Amx whose publics are in the order of their names is its layout and its
-- file
abbrev pub SortedIsWrittenAsItIs : Type 0
SortedIsWrittenAsItIs =
    (encoding : Encoding) (amx : Amx) (bytes : List ℕ) → IsWritable amx
    → IsWritten encoding amx bytes → IsLayout encoding amx bytes × IsFile bytes amx
