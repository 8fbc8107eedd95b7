-- What is an image is read as one: only a fault of the files or want of memory may stop `resume` at
-- it.
use Rattle.std.specs.Prelude.{◌≡◌, ℕ, List, Some}
use Rattle.pawn_outside.specs.Held.{Held}
use Rattle.amx_ops.specs.State.{State}
use Rattle.amx_image.specs.Restored.{HasNoImage}
use Rattle.command_parts.specs.declared.stop.Stop.{Stop}
use Rattle.command_parts.specs.Unread.{IsRead, Unread}
use Rattle.command_parts.specs.declared.program.Program.{Program}
use Rattle.commands.specs.declared.resumes.TheConstants.{IMAGE_LIMIT}
use Rattle.commands.specs.Restored.{IsImageOf}
use Rattle.commands.specs.Good.{IsFree}

-- a name holds the image of a state at a position, within its limit
abbrev pub HoldsImage : Held → List ℕ → Program → State → ℕ → Type 0
HoldsImage map name program s position =
    IsRead (Some map) name IMAGE_LIMIT (λ bytes. IsImageOf program bytes s position)

-- over files that tell what they hold
pub record GoodImagesAreRead : Type 0 where
  pub read : (map : Held) (name : List ℕ) (program : Program) (s : State) (position : ℕ)
      (stop : Stop)
      → HoldsImage map name program s position → Unread (Some map) name IMAGE_LIMIT stop
      → IsFree stop
  -- its bytes aren't refused
  pub taken : (program : Program) (bytes : List ℕ) (s : State) (position : ℕ)
      → IsImageOf program bytes s position
      → ¬ HasNoImage program.file program.digest bytes
  -- and are the image of no other state or position
  pub same : (map : Held) (name : List ℕ) (program : Program) (s t : State) (p q : ℕ)
      → HoldsImage map name program s p
      → HoldsImage map name program t q → (t ≡ s) × (q ≡ p)
