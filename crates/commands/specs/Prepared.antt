-- A machine of a program before its start, with its natives bound, and what keeps a run from it.
use Rattle.std.specs.Prelude.{◌≡◌, ◌+◌, ◌*◌, ◌≤◌, ℕ, ℤ, List, None, Some, Result, Ok, Err}
use Rattle.std.specs.Prelude.{length}
use Rattle.amx_ops.specs.declared.amx.Amx.{Amx}
use Rattle.amx_ops.specs.Keeps.{IsRunnable}
use Rattle.amx_ops.specs.States.{IsState}
use Rattle.amx_ops.specs.Trace.{loaded}
use Rattle.amx_machine.specs.Machine.{Machine, first}
use Rattle.host_run.specs.Bound.{bound_of}
use Rattle.amx_image.specs.declared.place.TheConstants.{CELLS}
use Rattle.command_parts.specs.declared.stop.Stop.{Stop}
use Rattle.command_parts.specs.declared.stop.Stop.TheVariants.{NoEntry, NoMemory}
use Rattle.command_parts.specs.declared.program.Program.{Program}
use Rattle.commands.specs.declared.ready_segment.ReadySegment.{ReadySegment}
use Rattle.host_run.specs.Entry.{address_named}
use Rattle.commands.specs.Served.{AreServed, HasUnserved}

-- its natives are served
abbrev pub IsServed : Program → Type 0
IsServed program = AreServed program.file program.script

-- one isn't, or memory is wanting
abbrev pub Unserved : Program → Stop → Type 0
Unserved program stop = HasUnserved program.file program.script stop

-- the entry is looked up before the natives
pub data NoStart (program : Program) (entry : List ℕ) : Stop → Type 0 where
  no_entry : address_named program.file entry ≡ None → NoStart program entry (NoEntry entry)
  no_native : (address : ℤ) (stop : Stop) → address_named program.file entry ≡ Some address
      → Unserved program stop
      → NoStart program entry stop
  wants_memory : NoStart program entry NoMemory

-- its machine can run it, and is sound before any start
pub record CanRun (amx : Amx) : Type 0 where
  pub runnable : IsRunnable amx
  pub first : IsState amx (loaded amx amx.room)

-- a machine of the file at a position of the script, with its natives bound and room for an image
pub record HasAll (program : Program) (m : Machine) (position : ℕ) (ready : ReadySegment) : Type 0
  where
    pub machine : ready.machine ≡ m
    pub digest : ready.digest ≡ program.digest
    pub script : ready.script ≡ program.script
    pub bound : ready.bound ≡ bound_of program.script program.file.natives
    pub position_is : ready.at ≡ position
    pub room : CELLS + 4 * length m.state.cells ≤ ready.buffer.room
    pub served : IsServed program

-- one that was loaded
abbrev pub IsPrepared : Program → ReadySegment → Type 0
IsPrepared program ready = HasAll program (first program.file) 0 ready

-- ---- what the calls answer

-- it was made ready, or a native isn't served
abbrev pub IsReadyFor : Program → Machine → ℕ → Result ReadySegment Stop → Type 0
IsReadyFor program m position (Ok ready) = HasAll program m position ready
IsReadyFor program m position (Err stop) = Unserved program stop
