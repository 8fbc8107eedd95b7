-- A machine that is ready to be started at its file's main, its natives served; or why there is
-- none.
use Rattle.std.specs.Prelude.{◌≡◌, None, Some, Result, Ok, Err}
use Rattle.host_script.specs.declared.script.Script.{Script}
use Rattle.amx_ops.specs.declared.amx.Amx.{Amx}
use Rattle.amx_ops.specs.Trace.{Main, address_of}
use Rattle.amx_machine.specs.Machine.{first}
use Rattle.host_run.specs.Bound.{bound_of}
use Rattle.host_run.specs.declared.entry.TheConstants.{MAIN}
use Rattle.command_parts.specs.declared.stop.Stop.{Stop}
use Rattle.command_parts.specs.declared.stop.Stop.TheVariants.{NoEntry, NoMemory}
use Rattle.commands.specs.declared.ready_file.ReadyFile.{ReadyFile}
use Rattle.commands.specs.Served.{AreServed, HasUnserved}

-- a file's machine before any start, its natives bound to a script
pub record IsServing (amx : Amx) (script : Script) (ready : ReadyFile) : Type 0 where
  pub served : AreServed amx script
  pub bound : ready.bound ≡ bound_of script amx.natives
  pub machine : ready.machine ≡ first amx

-- and main is there
pub record IsReadyFile (amx : Amx) (script : Script) (ready : ReadyFile) : Type 0 where
  pub main : address_of amx Main ≡ Some amx.entry
  pub serves : IsServing amx script ready

-- main is looked up before the natives
pub data NotReady (amx : Amx) (script : Script) : Stop → Type 0 where
  no_main : address_of amx Main ≡ None → NotReady amx script (NoEntry MAIN)
  no_native : (stop : Stop) → address_of amx Main ≡ Some amx.entry → HasUnserved amx script stop
      → NotReady amx script stop
  wants_memory : NotReady amx script NoMemory

-- ---- what the calls answer

-- natives are bound and the machine made, or not
abbrev pub ServesFile : Amx → Script → Result ReadyFile Stop → Type 0
ServesFile amx script (Ok ready) = IsServing amx script ready
ServesFile amx script (Err stop) = HasUnserved amx script stop

-- the same behind the look for main
abbrev pub Readies : Amx → Script → Result ReadyFile Stop → Type 0
Readies amx script (Ok ready) = IsReadyFile amx script ready
Readies amx script (Err stop) = NotReady amx script stop
