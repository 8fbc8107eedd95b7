-- What a user can count on: where `compile` put the file of a source, `verify` says that it is valid,
-- and `run` with the resumes behind it writes what the source means.
use Rattle.std.specs.Prelude.{◌≡◌, ℕ, List, Option, Some, Ok, codes}
use Rattle.std.specs.FinMap.{get}
use Rattle.pawn_outside.specs.Held.{Held}
use Rattle.host_script.specs.declared.script.Script.{Script}
use Rattle.pawn_meaning.specs.Program.{Program}
use Rattle.pawn_meaning.specs.Told.{meaning}
use Rattle.amx_ops.specs.declared.amx.Amx.{Amx}
use Rattle.gen_agrees.specs.Agrees.{Serves}
use Rattle.pawn_front.specs.declared.compiled.Warning.{Warning}
use Rattle.pawn_front.specs.Means.{Means}
use Rattle.command_parts.specs.declared.command.CompileWords.{CompileWords}
use Rattle.command_parts.specs.declared.read.TheConstants.{FILE_LIMIT}
use Rattle.command_parts.specs.declared.status.Status.{Status}
use Rattle.command_parts.specs.declared.status.Status.TheVariants as status
use Rattle.command_parts.specs.ScriptFile.{IsScriptNamed}
use Rattle.command_parts.specs.Told.{Writes}
use Rattle.command_parts.specs.Unread.{IsRead}
use Rattle.command_parts.specs.ValidFile.{IsValidFile}
use Rattle.commands.specs.Compiles.{Compiles}
use Rattle.commands.specs.Names.{Names}
use Rattle.commands.specs.Unfailing.{IsUnfailing}
use Rattle.pawn_cli.specs.ReadsFile.{Verifies}
use Rattle.pawn_laws.specs.Calls.{Call, AreCalls}
use Rattle.pawn_laws.specs.EntryFunction.{function_named}
use Rattle.pawn_laws.specs.OneRun.{IsOneRun}

-- a name holds what `compile` put at its own
abbrev pub Holds : Held → List ℕ → Held → List ℕ → Type 0
Holds after amx held name = get held name ≡ get after amx

-- `valid` was written
pub record SaysValid {S : Type 0} (writes : Writes S) (old new : S) (answer : Status) : Type 0 where
  pub text : writes.says old new (codes "valid\n") (Ok tt)
  pub is : answer ≡ status.Ok

-- files with the file that was put and a script that serves the natives, and an entry that is there
pub record CanStart (program : Program) (held : Held) (names : Names) (script : Script)
    (entry : List ℕ) (function : ℕ) : Type 0 where
  pub natives : IsScriptNamed (Some held) names.script script
  pub serves : Serves script program.natives
  pub there : function_named program entry ≡ Some function

-- `compile` put a file over some files, and left these
pub record RunsAsItMeans {S : Type 0} (writes : Writes S) (words : CompileWords)
    (before after : Held) : Type 0 where
  -- it is a file of the program that the source means
  pub program : Program
  pub warnings : List Warning
  pub means : Means (Some before) words.src program warnings
  pub amx : Amx
  pub file : IsRead (Some after) words.amx FILE_LIMIT (λ bytes. IsValidFile bytes amx)
  -- and is valid
  pub verified : (held : Held) (name : List ℕ) (end : Option Held) (old new : S) (answer : Status)
      → Holds after words.amx held name
      → Verifies writes name (Some held) end old new answer → IsUnfailing answer
      → SaysValid writes old new answer
  -- its run and the resumes behind it are one trace, and that is what the source means
  pub runs : (held : Held) (names : Names) (script : Script) (entry : List ℕ) (function : ℕ)
      (run : Call S) (resumes : List (Call S))
      → Holds after words.amx held names.amx
      → CanStart program held names script entry function
      → AreCalls writes names entry held run resumes
      → IsOneRun writes (meaning program script function) amx script entry run resumes

-- over files that tell what they hold, whenever `compile` answers that it put the file
abbrev pub CompiledRunsAsItMeans : {S : Type 0} → Writes S → Type 0
CompiledRunsAsItMeans {S} writes = (words : CompileWords) (before after : Held) (old new : S)
    → Compiles writes words (Some before) (Some after) old new status.Ok
    → RunsAsItMeans writes words before after
