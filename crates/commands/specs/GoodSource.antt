-- A source that has a program isn't refused: only a fault of the files or want of memory may stop
-- `compile` at it, and `go` before its run.
use Rattle.std.specs.Prelude.{◌≡◌, ℕ, List, Some}
use Rattle.pawn_outside.specs.Held.{Held}
use Rattle.host_script.specs.declared.script.Script.{Script}
use Rattle.pawn_meaning.specs.Program.{Program}
use Rattle.pawn_front.specs.declared.compiled.Warning.{Warning}
use Rattle.pawn_front.specs.Means.{Means}
use Rattle.amx_ops.specs.declared.amx.Amx.{Amx}
use Rattle.amx_ops.specs.Trace.{Main, address_of}
use Rattle.command_parts.specs.declared.stop.Stop.{Stop}
use Rattle.commands.specs.Made.{NoSource}
use Rattle.command_parts.specs.declared.command.GoWords.{GoWords}
use Rattle.commands.specs.Goes.{NotGood}
use Rattle.commands.specs.Natives.{HasNatives}
use Rattle.commands.specs.ReadyFile.{NotReady}
use Rattle.commands.specs.Served.{AreServed}
use Rattle.commands.specs.Good.{IsFree}

-- over files that tell what they hold
pub record GoodSourcesGo : Type 0 where
  -- where the source has a program
  pub made : (map : Held) (src : List ℕ) (program : Program) (warnings : List Warning) (stop : Stop)
      → Means (Some map) src program warnings → NoSource (Some map) src stop → IsFree stop
  -- and the script that is named is one
  pub read : (map : Held) (words : GoWords) (program : Program) (warnings : List Warning)
      (script : Script) (stop : Stop)
      → Means (Some map) words.src program warnings
      → HasNatives (Some map) words.script script
      → NotGood (Some map) words stop → IsFree stop
  -- a main that is there and natives that are served stop no start
  pub starts : (amx : Amx) (script : Script) (stop : Stop) → address_of amx Main ≡ Some amx.entry
      → AreServed amx script
      → NotReady amx script stop → IsFree stop
