-- A machine of a program that a segment can be run of.
use Rattle.std.specs.Prelude.{◌≡◌, ◌+◌, ◌*◌, ◌≤◌, length}
use Rattle.host_script.specs.Ranges.{IsScript}
use Rattle.amx_ops.specs.Keeps.{IsRunnable}
use Rattle.amx_ops.specs.States.{IsState}
use Rattle.host_run.specs.Bound.{bound_of}
use Rattle.host_run.specs.Segments.{Place}
use Rattle.host_run.specs.Stands.{IsAwake}
use Rattle.amx_image.specs.declared.place.TheConstants.{CELLS}
use Rattle.command_parts.specs.declared.program.Program.{Program}
use Rattle.commands.specs.declared.ready_segment.ReadySegment.{ReadySegment}

-- where its segment begins
abbrev pub place_of : ReadySegment → Place
place_of ready = record { machine = ready.machine; position = ready.at }

-- the program that it is of
abbrev pub program_of : ReadySegment → Program
program_of ready =
    record { file = ready.machine.amx; digest = ready.digest; script = ready.script }

-- it is running or at a sleep, natives are bound to the script, and there is room for an image
pub record IsReadySegment (ready : ReadySegment) : Type 0 where
  pub awake : IsAwake ready.machine.mode
  pub script : IsScript ready.script
  pub bound : ready.bound ≡ bound_of ready.script ready.machine.amx.natives
  pub runnable : IsRunnable ready.machine.amx
  pub state : IsState ready.machine.amx ready.machine.state
  pub room : CELLS + 4 * length ready.machine.state.cells ≤ ready.buffer.room
