-- What `compile` answers: the file of the program that the source means, or why there is none.
use Rattle.std.specs.Prelude.{◌≡◌, ◌≤◌, ◌+◌, ℕ, List, Option, Result, Ok, Err, length}
use Rattle.pawn_outside.specs.Held.{Held}
use Rattle.pawn_meaning.specs.Program.{Program}
use Rattle.pawn_meaning.specs.Weight.{lean}
use Rattle.amx_ops.specs.declared.amx.Amx.{Amx}
use Rattle.amx_format.specs.File.{IsFile}
use Rattle.amx_format.specs.Layout.{IsLayout}
use Rattle.amx_format.specs.declared.encoding.Encoding.{Encoding}
use Rattle.amx_format.specs.declared.header.TheConstants.{FILE_LIMIT}
use Rattle.gen_agrees.specs.Agrees.{Agrees}
use Rattle.pawn_front.specs.declared.compiled.Compiled.{Compiled}
use Rattle.pawn_front.specs.declared.compiled.Warning.{Warning}
use Rattle.pawn_front.specs.declared.fault.CompileFault.{CompileFault}
use Rattle.pawn_front.specs.declared.fault.CompileFault.TheVariants.{Memory}
use Rattle.pawn_front.specs.Faults.{NotCompiled}
use Rattle.pawn_front.specs.Means.{Means}

-- bytes of a file that does what a program means, in the writer's layout; there are no more than a
-- file may have, and no more cells of code than the program's lean weight and two
pub record HasFile (program : Program) (encoding : Encoding) (bytes : List ℕ) : Type 0 where
  pub amx : Amx
  pub agrees : Agrees program amx
  pub light : length amx.code ≤ lean program + 2
  pub file : IsFile bytes amx
  pub layout : IsLayout encoding amx bytes
  pub small : length bytes ≤ FILE_LIMIT

-- the file of a source, and its warnings
pub record IsCompiled (held : Option Held) (name : List ℕ) (encoding : Encoding) (it : Compiled)
    : Type 0 where
  pub program : Program
  pub means : Means held name program it.warnings
  pub has : HasFile program encoding it.bytes

-- an answer agrees with what the source means
abbrev pub Compiles : Option Held → List ℕ → Encoding → Result Compiled CompileFault → Type 0
Compiles held name encoding (Ok it) = IsCompiled held name encoding it
Compiles held name encoding (Err fault) = NotCompiled held name fault

-- ---- of a program

-- the file of a source's program, and the source's warnings
pub record IsFileOf (program : Program) (warnings : List Warning) (encoding : Encoding)
    (it : Compiled) : Type 0 where
  pub has : HasFile program encoding it.bytes
  pub warnings_are : it.warnings ≡ warnings

-- what making it answers
abbrev pub MakesFile : Program → List Warning → Encoding → Result Compiled CompileFault → Type 0
MakesFile program warnings encoding (Ok it) = IsFileOf program warnings encoding it
MakesFile program warnings encoding (Err fault) = fault ≡ Memory
