-- The machines of a plan over the files that are read, and what keeps one from being made.
use Rattle.std.specs.Prelude.{◌≡◌, ◌++◌, ◌∷◌, ℕ, List, [], Option, None, Some, Result, Ok, Err}
use Rattle.pawn_outside.specs.Held.{Held}
use Rattle.host_script.specs.declared.script.Script.{Script}
use Rattle.amx_ops.specs.declared.amx.Amx.{Amx}
use Rattle.amx_ops.specs.Moves.{name_of}
use Rattle.command_parts.specs.declared.read.TheConstants.{FILE_LIMIT}
use Rattle.command_parts.specs.declared.stop.Stop.{Stop}
use Rattle.command_parts.specs.declared.stop.Stop.TheVariants.{Unregistered, NoMemory}
use Rattle.command_parts.specs.ScriptFile.{IsScriptNamed, NoScript}
use Rattle.command_parts.specs.Unread.{IsRead}
use Rattle.command_parts.specs.ValidFile.{IsValidFile, NoFile}
use Rattle.host_run.specs.Bound.{unserved}
use Rattle.host_many.specs.Guests.{new_guest}
use Rattle.host_many.specs.Own.{Guest}
use Rattle.host_plan.specs.declared.plan.MachineFiles.{MachineFiles}

-- ---- one machine

-- a name holds a valid file
abbrev pub IsFileNamed : Option Held → List ℕ → Amx → Type 0
IsFileNamed held name amx = IsRead held name FILE_LIMIT (λ bytes. IsValidFile bytes amx)

-- the first native that the script doesn't serve, or want of memory
pub data Unserved (amx : Amx) (script : Script) : Stop → Type 0 where
  unregistered : (number : ℕ) → unserved script amx.natives ≡ Some number
      → Unserved amx script (Unregistered (name_of amx.natives number))
  no_memory : Unserved amx script NoMemory

-- its files are good, and the script serves the natives
pub record IsMachine (held : Option Held) (it : MachineFiles) (amx : Amx) (script : Script) : Type 0
  where
    pub file : IsFileNamed held it.amx amx
    pub natives : IsScriptNamed held it.script script
    pub served : unserved script amx.natives ≡ None

-- a script is looked for behind a good file, and natives behind a good script
pub data NoMachine (held : Option Held) (it : MachineFiles) (stop : Stop) : Type 0 where
  no_file : NoFile held it.amx stop → NoMachine held it stop
  no_script : (amx : Amx) → IsFileNamed held it.amx amx → NoScript held it.script stop
      → NoMachine held it stop
  no_native : (amx : Amx) (script : Script) → IsFileNamed held it.amx amx
      → IsScriptNamed held it.script script → Unserved amx script stop → NoMachine held it stop

-- ---- all machines

-- each was made of its files, and is as it was loaded
abbrev pub AreMachines : Option Held → List MachineFiles → List Guest → Type 0
AreMachines held [] guests = guests ≡ []
AreMachines held (it ∷ machines) guests =
    (amx : Amx) × (script : Script) × (others : List Guest) × IsMachine held it amx script
    × (guests ≡ new_guest amx script ∷ others) × AreMachines held machines others

-- those before it were made, and it can't be
pub record NoMachines (held : Option Held) (machines : List MachineFiles) (stop : Stop) : Type 0
  where
    pub before : List MachineFiles
    pub it : MachineFiles
    pub behind : List MachineFiles
    pub all : machines ≡ before ++ it ∷ behind
    pub guests : List Guest
    pub made : AreMachines held before guests
    pub comes : NoMachine held it stop

-- ---- what the calls answer

-- whether the natives are served
abbrev pub IsServed : Amx → Script → Result (Unit {0}) Stop → Type 0
IsServed amx script (Ok done) = unserved script amx.natives ≡ None
IsServed amx script (Err stop) = Unserved amx script stop

-- a machine more of a file and a script
abbrev pub AddsProgram : Amx → Script → List Guest → Result (Unit {0}) Stop → List Guest → Type 0
AddsProgram amx script old (Ok done) new =
    (unserved script amx.natives ≡ None) × (new ≡ old ++ new_guest amx script ∷ [])
AddsProgram amx script old (Err stop) new = Unserved amx script stop

-- a machine that stands behind others
pub record IsAdded (held : Option Held) (it : MachineFiles) (old new : List Guest) : Type 0 where
  pub amx : Amx
  pub script : Script
  pub is : IsMachine held it amx script
  pub added : new ≡ old ++ new_guest amx script ∷ []

-- a machine more by the names of its files
abbrev pub AddsOf : Option Held → MachineFiles → List Guest → Result (Unit {0}) Stop → List Guest
    → Type 0
AddsOf held it old (Ok done) new = IsAdded held it old new
AddsOf held it old (Err stop) new = NoMachine held it stop

-- all of them
abbrev pub AreHosted : Option Held → List MachineFiles → Result (List Guest) Stop → Type 0
AreHosted held machines (Ok guests) = AreMachines held machines guests
AreHosted held machines (Err stop) = NoMachines held machines stop
