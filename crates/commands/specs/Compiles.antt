-- `compile SRC AMX [--compact]`: what it answers, writes and puts, over the files that it reads.
use Rattle.std.specs.Prelude.{◌⊎◌, ℕ, List, Bool, true, false, Option}
use Rattle.pawn_outside.specs.Held.{Held}
use Rattle.amx_format.specs.declared.encoding.Encoding.{Encoding}
use Rattle.amx_format.specs.declared.encoding.Encoding.TheVariants.{Plain, Compact}
use Rattle.pawn_front.specs.declared.compiled.Compiled.{Compiled}
use Rattle.pawn_front.specs.Compiled.{IsCompiled}
use Rattle.command_parts.specs.declared.status.Status.{Status}
use Rattle.command_parts.specs.Told.{Writes}
use Rattle.commands.specs.Runs.{IsStopped}
use Rattle.command_parts.specs.declared.command.CompileWords.{CompileWords}
use Rattle.commands.specs.Lines.{compile_text}
use Rattle.commands.specs.Made.{NoSource}
use Rattle.commands.specs.PutFile.{PutsFile}

-- cells are compact exactly where that is asked
abbrev pub encoding_of : Bool → Encoding
encoding_of true = Compact
encoding_of false = Plain

-- its file isn't put, or is put, and its lines are told
abbrev pub Puts : {S : Type 0} → Writes S → Compiled → List ℕ → Option Held → Option Held → S → S
    → Status → Type 0
Puts writes it name held after old new answer =
    PutsFile writes it.bytes (compile_text it) name held after old new answer

-- its source is compiled
pub record CompilesGood {S : Type 0} (writes : Writes S) (words : CompileWords)
    (held after : Option Held) (old new : S) (answer : Status) : Type 0 where
  pub it : Compiled
  pub made : IsCompiled held words.src (encoding_of words.compact) it
  pub puts : Puts writes it words.amx held after old new answer

-- the file at AMX stays as it was where there is no good source
abbrev pub Compiles : {S : Type 0} → Writes S → CompileWords → Option Held → Option Held → S → S
    → Status → Type 0
Compiles writes words held after old new answer =
    IsStopped writes (NoSource held words.src) held after old new answer
    ⊎ CompilesGood writes words held after old new answer
