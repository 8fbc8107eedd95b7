-- Bytes that are a script, and what keeps bytes from being one.
use Rattle.std.specs.Prelude.{◌≡◌, ◌≢◌, ◌⊎◌, ℕ, List, Option, None, Some, Result, Ok, Err}
use Rattle.pawn_outside.specs.Held.{Held}
use Rattle.host_script.specs.declared.script.Script.{Script}
use Rattle.script_reader.specs.declared.fault.Field.{Field}
use Rattle.script_reader.specs.declared.fault.ScriptFault.{ScriptFault}
use Rattle.script_reader.specs.declared.fault.ScriptFault.TheVariants.{Json, Shape, Range, Memory}
use Rattle.script_reader.specs.Reading.{ReadsScript, number_of}
use Rattle.command_parts.specs.declared.stop.Stop.{Stop}
use Rattle.command_parts.specs.declared.stop.Stop.TheVariants as stops
use Rattle.command_parts.specs.Unread.{IsRead, Unread}
use Rattle.command_parts.specs.declared.script.TheConstants.{SCRIPT_LIMIT}

-- they are read, and mean this
abbrev pub IsScriptOf : List ℕ → Script → Type 0
IsScriptOf bytes script = ReadsScript bytes (Ok script)

-- the stop at a field, with the number of what is wrong there
abbrev pub field_stop : Option ℕ → Field → Stop
field_stop (Some kind) field = stops.BadScript kind field
field_stop None field = stops.NoMemory

-- the stop at a fault
abbrev pub stop_at : ScriptFault → Stop
stop_at Json = stops.NoScript
stop_at (Shape field) = field_stop (number_of (Shape field)) field
stop_at (Range field) = field_stop (number_of (Range field)) field
stop_at Memory = stops.NoMemory

-- they are none, for a fault that they have
pub record IsNoScript (bytes : List ℕ) (stop : Stop) : Type 0 where
  pub fault : ScriptFault
  pub has : ReadsScript bytes (Err fault)
  pub refused : fault ≢ Memory
  pub stop_is : stop ≡ stop_at fault

-- what reading a script answers
abbrev pub IsScriptRead : List ℕ → Result Script Stop → Type 0
IsScriptRead bytes (Ok script) = IsScriptOf bytes script
IsScriptRead bytes (Err stop) = (stop ≡ stops.NoMemory) ⊎ IsNoScript bytes stop

-- ---- by its name

-- a script that is held under a name, not too long, is this one
abbrev pub IsScriptNamed : Option Held → List ℕ → Script → Type 0
IsScriptNamed held name script = IsRead held name SCRIPT_LIMIT (λ bytes. IsScriptOf bytes script)

-- the script isn't read, or is none
abbrev pub NoScript : Option Held → List ℕ → Stop → Type 0
NoScript held name stop =
    Unread held name SCRIPT_LIMIT stop
    ⊎ IsRead held name SCRIPT_LIMIT (λ bytes. IsNoScript bytes stop)

-- what reading it answers
abbrev pub IsScriptFileRead : Option Held → List ℕ → Result Script Stop → Type 0
IsScriptFileRead held name (Ok script) = IsScriptNamed held name script
IsScriptFileRead held name (Err stop) = NoScript held name stop
