-- A machine of a file at the sleep of an image.
use Rattle.std.specs.Prelude.{◌≡◌, ℕ, List}
use Rattle.amx_ops.specs.declared.amx.Amx.{Amx}
use Rattle.amx_ops.specs.State.{State}
use Rattle.amx_ops.specs.States.{IsRestorable}
use Rattle.amx_machine.specs.Machine.{Machine}
use Rattle.amx_machine.specs.declared.mode.Mode.TheVariants as mode
use Rattle.amx_image.specs.Restored.{IsImageFor}
use Rattle.command_parts.specs.declared.program.Program.{Program}

-- bytes are the image of a state at a position, for a program
abbrev pub IsImageOf : Program → List ℕ → State → ℕ → Type 0
IsImageOf program bytes s position = IsImageFor program.file program.digest bytes s position

-- a machine was set to it
pub record IsRestored (amx : Amx) (m : Machine) : Type 0 where
  pub file : m.amx ≡ amx
  pub state : IsRestorable amx m.state
  pub sleeps : m.mode ≡ mode.Asleep
