-- The script of a run: that of a file by its name, or the plain one where no name is given.
use Rattle.std.specs.Prelude.{◌≡◌, ℕ, List, Option, None, Some, Result, Ok, Err}
use Rattle.pawn_outside.specs.Held.{Held}
use Rattle.host_script.specs.declared.script.Script.{Script}
use Rattle.host_script.specs.Script.{plain}
use Rattle.command_parts.specs.declared.stop.Stop.{Stop}
use Rattle.command_parts.specs.declared.stop.Stop.TheVariants.{NoMemory}
use Rattle.command_parts.specs.ScriptFile.{IsScriptNamed, NoScript}

-- the script is there
abbrev pub HasNatives : Option Held → Option (List ℕ) → Script → Type 0
HasNatives held None script = script ≡ plain
HasNatives held (Some name) script = IsScriptNamed held name script

-- what keeps a command from it
abbrev pub LacksNatives : Option Held → Option (List ℕ) → Stop → Type 0
LacksNatives held None stop = stop ≡ NoMemory
LacksNatives held (Some name) stop = NoScript held name stop

-- ---- what the calls answer

-- the script, or what keeps it away
abbrev pub AreNatives : Option Held → Option (List ℕ) → Result Script Stop → Type 0
AreNatives held name (Ok script) = HasNatives held name script
AreNatives held name (Err stop) = LacksNatives held name stop

-- the plain script, or want of memory
abbrev pub IsPlain : Result Script Stop → Type 0
IsPlain (Ok script) = script ≡ plain
IsPlain (Err stop) = stop ≡ NoMemory
