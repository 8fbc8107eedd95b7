-- `sample K AMX`: what it answers, writes and puts. Its source is made, and it reads no file.
use Rattle.std.specs.Prelude.{◌≡◌, ◌⊎◌, ℕ, List, Option, Some, codes, length}
use Rattle.std.specs.FinMap.{empty, insert}
use Rattle.pawn_outside.specs.Held.{Held, with_put}
use Rattle.host_script.specs.Script.{plain}
use Rattle.amx_ops.specs.declared.amx.Amx.{Amx}
use Rattle.amx_ops.specs.Trace.{Main, address_of}
use Rattle.amx_format.specs.declared.encoding.Encoding.TheVariants.{Plain}
use Rattle.pawn_front.specs.declared.compiled.Compiled.{Compiled}
use Rattle.pawn_front.specs.Compiled.{IsCompiled}
use Rattle.pawn_sample.specs.SampleSource.{sample_source}
use Rattle.command_parts.specs.declared.command.SampleWords.{SampleWords}
use Rattle.command_parts.specs.declared.options.TheConstants.{DEFAULT_STEPS}
use Rattle.command_parts.specs.declared.status.Status.{Status}
use Rattle.command_parts.specs.declared.stop.Stop.{Stop}
use Rattle.command_parts.specs.ValidFile.{IsValidFile}
use Rattle.command_parts.specs.Told.{Says, Writes, TellsLine}
use Rattle.commands.specs.Counted.{TellsCounted, sample_trace}
use Rattle.commands.specs.Made.{NoSource}
use Rattle.commands.specs.Meant.{IsMeant}
use Rattle.commands.specs.PutFile.{Unput}
use Rattle.commands.specs.ReadyFile.{NotReady}
use Rattle.commands.specs.Runs.{IsStopped}

-- the name of the source
abbrev pub sample_name : List ℕ
sample_name = codes "sample.p"

-- one file holds the source of so many functions, and there is no other
abbrev pub sample_files : ℕ → Held
sample_files functions = insert empty sample_name (sample_source functions)

-- it is compiled
abbrev pub IsSample : ℕ → Compiled → Type 0
IsSample functions it = IsCompiled (Some (sample_files functions)) sample_name Plain it

-- or it isn't
abbrev pub NoSample : ℕ → Stop → Type 0
NoSample functions stop = NoSource (Some (sample_files functions)) sample_name stop

-- ---- the file that is put

-- it is run from its main: what keeps it from its start is told, or its trace with its counts
pub data RunsSample {S : Type 0} (says : Says S) (amx : Amx) (old new : S)
    (answer : Status) : Type 0 where
  stopped : (stop : Stop) → NotReady amx plain stop → TellsLine stop says old new answer
      → RunsSample says amx old new answer
  ran : address_of amx Main ≡ Some amx.entry
      → TellsCounted says (length amx.code) (sample_trace amx DEFAULT_STEPS) old new answer
      → RunsSample says amx old new answer

-- it is put, and what was put is run
pub record PutsSample {S : Type 0} (writes : Writes S) (name bytes : List ℕ) (amx : Amx)
    (held after : Option Held) (old new : S) (answer : Status) : Type 0 where
  pub kept : after ≡ with_put held name bytes
  pub runs : RunsSample writes.says amx old new answer

-- it isn't put, or it is put and run
abbrev pub MayPutSample : {S : Type 0} → Writes S → List ℕ → List ℕ → Amx → Option Held
    → Option Held → S → S → Status → Type 0
MayPutSample writes name bytes amx held after old new answer =
    Unput writes name held after old new answer
    ⊎ PutsSample writes name bytes amx held after old new answer

-- ---- the whole command

-- its source is compiled; what its run tells is what the source means
pub record SamplesGood {S : Type 0} (writes : Writes S) (words : SampleWords)
    (held after : Option Held) (old new : S) (answer : Status) : Type 0 where
  pub it : Compiled
  pub made : IsSample words.functions it
  pub meant : (function : ℕ) → made.program.entry ≡ Some function
      → IsMeant made.program function made.has.amx plain DEFAULT_STEPS 0
  pub puts : MayPutSample writes words.amx it.bytes made.has.amx held after old new answer

-- nothing is put where there is no file
abbrev pub Samples : {S : Type 0} → Writes S → SampleWords → Option Held → Option Held → S → S
    → Status → Type 0
Samples writes words held after old new answer =
    IsStopped writes (NoSample words.functions) held after old new answer
    ⊎ SamplesGood writes words held after old new answer

-- ---- what the calls answer

-- of bytes that are a valid file
abbrev pub MakesSample : {S : Type 0} → Writes S → List ℕ → List ℕ → Option Held → Option Held
    → S → S → Status → Type 0
MakesSample writes name bytes held after old new answer =
    (amx : Amx) → IsValidFile bytes amx
    → MayPutSample writes name bytes amx held after old new answer
