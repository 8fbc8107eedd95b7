-- `go SRC AMX [SCRIPT]`: what it answers, writes and puts, over the files that it reads.
use Rattle.std.specs.Prelude.{◌≡◌, ◌⊎◌, ◌++◌, ℕ, List, Option, Some, Result, Ok, Err}
use Rattle.pawn_outside.specs.Held.{Held, with_put}
use Rattle.amx_ops.specs.declared.amx.Amx.{Amx}
use Rattle.amx_format.specs.declared.encoding.Encoding.TheVariants.{Plain}
use Rattle.command_parts.specs.declared.status.Status.{Status}
use Rattle.command_parts.specs.declared.stop.Stop.{Stop}
use Rattle.command_parts.specs.ValidFile.{IsValidFile}
use Rattle.pawn_front.specs.declared.compiled.Compiled.{Compiled}
use Rattle.pawn_front.specs.Compiled.{IsCompiled}
use Rattle.command_parts.specs.Told.{Says, Writes}
use Rattle.commands.specs.Runs.{IsStopped}
use Rattle.commands.specs.PutFile.{Unput}
use Rattle.commands.specs.Lines.{warning_lines}
use Rattle.commands.specs.Made.{NoSource}
use Rattle.commands.specs.declared.goes.Prepared.{Prepared}
use Rattle.command_parts.specs.declared.command.GoWords.{GoWords}
use Rattle.commands.specs.Meant.{IsMeant}
use Rattle.commands.specs.Natives.{HasNatives, LacksNatives}
use Rattle.commands.specs.Served.{AreServed}
use Rattle.commands.specs.RunsFile.{RunsFile}

-- the source of a name is compiled
abbrev pub IsSource : Option Held → GoWords → Compiled → Type 0
IsSource held words it = IsCompiled held words.src Plain it

-- the source and the script are good
pub record IsGood (held : Option Held) (words : GoWords) (it : Prepared) : Type 0 where
  pub made : IsSource held words it.compiled
  pub natives : HasNatives held words.script it.script

-- the script is looked for behind a good source
pub data NotGood (held : Option Held) (words : GoWords) (stop : Stop) : Type 0 where
  no_source : NoSource held words.src stop → NotGood held words stop
  no_natives : (it : Compiled) → IsSource held words it → LacksNatives held words.script stop
      → NotGood held words stop

-- ---- the file that is put

-- what is written behind a text
abbrev pub behind : {S : Type 0} → List ℕ → Says S → Says S
behind front says = λ old new text told. says old new (front ++ text) told

-- it is put, the warnings are told, and what was put is run
pub record RunsPut {S : Type 0} (writes : Writes S) (words : GoWords) (amx : Amx) (it : Prepared)
    (held after : Option Held) (old new : S) (answer : Status) : Type 0 where
  pub kept : after ≡ with_put held words.amx it.compiled.bytes
  pub runs : RunsFile (behind (warning_lines it.compiled.warnings) writes.says) amx it.script words
      old new answer

-- it isn't put, or it is put and run
abbrev pub MayPut : {S : Type 0} → Writes S → GoWords → Amx → Prepared → Option Held → Option Held
    → S → S → Status → Type 0
MayPut writes words amx it held after old new answer =
    Unput writes words.amx held after old new answer
    ⊎ RunsPut writes words amx it held after old new answer

-- ---- the whole command

-- its files are good; what its run tells is what the source means
pub record GoesGood {S : Type 0} (writes : Writes S) (words : GoWords) (held after : Option Held)
    (old new : S) (answer : Status) : Type 0 where
  pub prepared : Prepared
  pub good : IsGood held words prepared
  pub meant : (function : ℕ) → good.made.program.entry ≡ Some function
      → AreServed good.made.has.amx prepared.script
      → IsMeant good.made.program function good.made.has.amx prepared.script words.steps
      words.sleeps
  pub puts : MayPut writes words good.made.has.amx prepared held after old new answer

-- nothing is put where the source or the script isn't good
abbrev pub Goes : {S : Type 0} → Writes S → GoWords → Option Held → Option Held → S → S → Status
    → Type 0
Goes writes words held after old new answer =
    IsStopped writes (NotGood held words) held after old new answer
    ⊎ GoesGood writes words held after old new answer

-- ---- what the calls answer

-- the source and the script are good, or one of them isn't
abbrev pub Prepares : Option Held → GoWords → Result Prepared Stop → Type 0
Prepares held words (Ok it) = IsGood held words it
Prepares held words (Err stop) = NotGood held words stop

-- of bytes that are a valid file
abbrev pub Makes : {S : Type 0} → Writes S → GoWords → Prepared → Option Held → Option Held → S → S
    → Status → Type 0
Makes writes words it held after old new answer =
    (amx : Amx) → IsValidFile it.compiled.bytes amx
    → MayPut writes words amx it held after old new answer
