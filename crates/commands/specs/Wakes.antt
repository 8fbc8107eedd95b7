-- A machine that is woken at the image of a sleep, with all that it takes to go on; or why not.
use Rattle.std.specs.Prelude.{◌≡◌, ◌⊎◌, ℕ, List, Some, Result, Ok, Err}
use Rattle.amx_ops.specs.State.{State}
use Rattle.amx_step.specs.Machine.{cell_count}
use Rattle.amx_machine.specs.Machine.{Machine}
use Rattle.amx_image.specs.Faults.{first_fault}
use Rattle.amx_image.specs.Restored.{HasNoImage}
use Rattle.command_parts.specs.declared.stop.Stop.{Stop}
use Rattle.command_parts.specs.declared.program.Program.{Program}
use Rattle.commands.specs.declared.ready_segment.ReadySegment.{ReadySegment}
use Rattle.commands.specs.declared.wake.WakeFault.{WakeFault}
use Rattle.commands.specs.declared.wake.WakeFault.TheVariants as wake
use Rattle.commands.specs.Prepared.{HasAll, Unserved}
use Rattle.commands.specs.Restored.{IsImageOf, IsRestored}
use Rattle.commands.specs.Resumes.{WantsMemory}

-- it was set to the state of an image, and made ready
pub record IsWoken (program : Program) (bytes : List ℕ) (ready : ReadySegment) : Type 0 where
  pub machine : Machine
  pub position : ℕ
  pub image : IsImageOf program bytes machine.state position
  pub restored : IsRestored program.file machine
  pub has : HasAll program machine position ready

-- the bytes are the image of a state, and a native isn't served
pub record IsUnservedImage (program : Program) (bytes : List ℕ) (stop : Stop) : Type 0 where
  pub state : State
  pub position : ℕ
  pub image : IsImageOf program bytes state position
  pub unserved : Unserved program stop

-- why it isn't woken
abbrev pub NotWoken : Program → List ℕ → WakeFault → Type 0
NotWoken program bytes (wake.Stop stop) = WantsMemory stop ⊎ IsUnservedImage program bytes stop
NotWoken program bytes (wake.Image fault) =
    HasNoImage program.file program.digest bytes
    × (first_fault program.file (cell_count program.file) program.digest bytes ≡ Some fault)

-- what waking it answers
abbrev pub Wakes : Program → List ℕ → Result ReadySegment WakeFault → Type 0
Wakes program bytes (Ok ready) = IsWoken program bytes ready
Wakes program bytes (Err fault) = NotWoken program bytes fault
