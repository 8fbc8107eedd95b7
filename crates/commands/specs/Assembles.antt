-- `assemble TEXT AMX [--compact]`: what it answers, writes and puts, over the file that it reads.
use Rattle.std.specs.Prelude.{◌≡◌, ◌≢◌, ◌⊎◌, ℕ, List, Option, None, Some, Result, Ok, Err, length}
use Rattle.pawn_outside.specs.Held.{Held}
use Rattle.amx_ops.specs.declared.amx.Amx.{Amx}
use Rattle.amx_format.specs.declared.encoding.Encoding.{Encoding}
use Rattle.amx_format.specs.Written.{IsWritten}
use Rattle.amx_text.specs.declared.fault.AsmFault.{AsmFault}
use Rattle.amx_text.specs.declared.fault.AsmFault.TheVariants.{Memory}
use Rattle.amx_text.specs.Assembles.{IsAssembled}
use Rattle.amx_text.specs.Assembles as texts
use Rattle.amx_text.specs.Faults.{refusal_of}
use Rattle.command_parts.specs.declared.command.AssembleWords.{AssembleWords}
use Rattle.command_parts.specs.declared.read.TheConstants.{SOURCE_LIMIT}
use Rattle.command_parts.specs.declared.status.Status.{Status}
use Rattle.command_parts.specs.declared.stop.Stop.{Stop}
use Rattle.command_parts.specs.declared.stop.Stop.TheVariants.{Refused, NoMemory}
use Rattle.command_parts.specs.Told.{Writes}
use Rattle.command_parts.specs.Unread.{IsRead, Unread}
use Rattle.commands.specs.Compiles.{encoding_of}
use Rattle.commands.specs.Lines.{ok_line}
use Rattle.commands.specs.PutFile.{PutsFile}
use Rattle.commands.specs.Runs.{IsStopped}

-- ---- the text

-- the stop of a refusal with a number and a line, by the text's name
abbrev pub stop_by : List ℕ → Option (ℕ × ℕ) → Stop
stop_by name None = NoMemory
stop_by name (Some refusal) = Refused refusal.0 name refusal.1

-- a text under its name that is refused, for the first fault that it has
pub record IsRefused (name bytes : List ℕ) (stop : Stop) : Type 0 where
  pub fault : AsmFault
  pub has : texts.Assembles bytes (Err fault)
  pub refused : fault ≢ Memory
  pub is : stop ≡ stop_by name (refusal_of fault)

-- the text isn't read, or is refused
abbrev pub NoText : Option Held → List ℕ → Stop → Type 0
NoText held name stop =
    Unread held name SOURCE_LIMIT stop
    ⊎ IsRead held name SOURCE_LIMIT (λ bytes. IsRefused name bytes stop)

-- ---- the file that is put

-- what the writer makes of the file that is listed with a text
pub record IsFileOfText (encoding : Encoding) (bytes file : List ℕ) : Type 0 where
  pub amx : Amx
  pub assembled : IsAssembled bytes amx
  pub written : IsWritten encoding amx file

-- ---- what the calls answer

-- what making the file of a text answers, by the text's name
abbrev pub IsTextMade : List ℕ → Encoding → List ℕ → Result (List ℕ) Stop → Type 0
IsTextMade name encoding bytes (Ok file) = IsFileOfText encoding bytes file
IsTextMade name encoding bytes (Err stop) = (stop ≡ NoMemory) ⊎ IsRefused name bytes stop

-- the same of the text that a name is read to
abbrev pub IsTextRead : Option Held → List ℕ → Encoding → Result (List ℕ) Stop → Type 0
IsTextRead held name encoding (Ok file) =
    IsRead held name SOURCE_LIMIT (λ bytes. IsFileOfText encoding bytes file)
IsTextRead held name encoding (Err stop) = NoText held name stop

-- ---- the whole command

-- its text is good, and its file isn't put, or is put and told of
pub record AssemblesGood {S : Type 0} (writes : Writes S) (words : AssembleWords)
    (held after : Option Held) (old new : S) (answer : Status) : Type 0 where
  pub file : List ℕ
  pub made : IsRead held words.text SOURCE_LIMIT
      (λ bytes. IsFileOfText (encoding_of words.compact) bytes file)
  pub puts : let line = ok_line (length file) in
      PutsFile writes file line words.amx held after old new answer

-- the file at AMX stays as it was where there is no good text
abbrev pub Assembles : {S : Type 0} → Writes S → AssembleWords → Option Held → Option Held → S → S
    → Status → Type 0
Assembles writes words held after old new answer =
    IsStopped writes (NoText held words.text) held after old new answer
    ⊎ AssemblesGood writes words held after old new answer
