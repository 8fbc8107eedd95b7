-- What a machine is set to by an image, and when bytes are none for it.
use Rattle.std.specs.Prelude.{◌≡◌, ℕ, List, Some, Result, Ok, Err, length}
use Rattle.amx_ops.specs.declared.amx.Amx.{Amx}
use Rattle.amx_ops.specs.State.{State}
use Rattle.amx_ops.specs.States.{IsRestorable}
use Rattle.amx_machine.specs.declared.mode.Mode.TheVariants as mode
use Rattle.amx_step.specs.Machine.{cell_count}
use Rattle.amx_machine.specs.Machine.{Machine}
use Rattle.amx_image.specs.declared.fault.ImageFault.{ImageFault}
use Rattle.amx_image.specs.declared.version.Version.{Version}
use Rattle.amx_image.specs.Image.{IsImage}
use Rattle.amx_image.specs.Faults.{first_fault}

-- bytes are the image of a state that a file's machine can be set to at a sleep
pub record IsImageFor (amx : Amx) (digest bytes : List ℕ) (s : State) (position : ℕ) : Type 0 where
  pub version : Version
  pub image : IsImage version s position digest bytes
  pub restorable : IsRestorable amx s
  pub count : length s.cells ≡ cell_count amx

-- they are so of no state at no position
abbrev pub HasNoImage : Amx → List ℕ → List ℕ → Type 0
HasNoImage amx digest bytes = (s : State) (position : ℕ) → ¬ IsImageFor amx digest bytes s position

-- the machine is then at a sleep in the image's state; it is as it was after a fault, which is the
-- first one
abbrev pub Restores : Machine → List ℕ → List ℕ → Result ℕ ImageFault → Machine → Type 0
Restores old digest bytes (Ok position) new =
    IsImageFor old.amx digest bytes new.state position
    × (new ≡ record old { state = new.state; mode = mode.Asleep })
Restores old digest bytes (Err fault) new =
    HasNoImage old.amx digest bytes
    × (first_fault old.amx (cell_count old.amx) digest bytes ≡ Some fault) × (new ≡ old)
