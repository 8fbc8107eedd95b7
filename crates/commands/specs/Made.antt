-- A source that is compiled by its name, or the stop at one that isn't.
use Rattle.std.specs.Prelude.{◌≡◌, ℕ, List, Option, Result, Ok, Err}
use Rattle.pawn_outside.specs.Held.{Held}
use Rattle.amx_format.specs.declared.encoding.Encoding.{Encoding}
use Rattle.pawn_front.specs.declared.compiled.Compiled.{Compiled}
use Rattle.pawn_front.specs.declared.fault.CompileFault.{CompileFault}
use Rattle.pawn_front.specs.declared.fault.CompileFault.TheVariants as compile
use Rattle.pawn_front.specs.Compiled.{IsCompiled}
use Rattle.pawn_front.specs.Faults.{NotCompiled}
use Rattle.command_parts.specs.declared.stop.Stop.{Stop}
use Rattle.command_parts.specs.declared.stop.Stop.TheVariants as stop

-- the stop at a source that isn't compiled, by the source's name
abbrev pub stop_of : List ℕ → CompileFault → Stop
stop_of src (compile.Refused kind file line) = stop.Refused kind file line
stop_of src compile.NoSource = stop.NoFile src
stop_of src (compile.TooLarge name) = stop.TooLarge name
stop_of src compile.Files = stop.FileFault
stop_of src compile.Memory = stop.NoMemory

-- why it isn't
pub record NoSource (held : Option Held) (src : List ℕ) (told : Stop) : Type 0 where
  pub fault : CompileFault
  pub cause : NotCompiled held src fault
  pub is : told ≡ stop_of src fault

-- ---- what the calls answer

-- what compiling answers
abbrev pub IsMade : Option Held → List ℕ → Encoding → Result Compiled Stop → Type 0
IsMade held src encoding (Ok it) = IsCompiled held src encoding it
IsMade held src encoding (Err told) = NoSource held src told
