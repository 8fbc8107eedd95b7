-- The line of bytes that are no image, and its status.
use Rattle.std.specs.Prelude.{◌≡◌, ◌++◌, ◌==◌, ℕ, List, [], codes, if◌then◌else◌}
use Rattle.std.specs.Fmt.{decimal}
use Rattle.amx_image.specs.declared.fault.ImageFault.{ImageFault}
use Rattle.amx_image.specs.declared.fault.ImageFault.TheVariants as fault
use Rattle.amx_image.specs.declared.fault.TheConstants as register
use Rattle.amx_image.specs.Faults.{number_of}
use Rattle.command_parts.specs.declared.status.Status.{Status}
use Rattle.command_parts.specs.declared.status.Status.TheVariants as status
use Rattle.command_parts.specs.Told.{Told, Says, status_told}

-- a register by its number, behind a blank
abbrev pub register_named : ℕ → List ℕ
register_named number =
    if number == register.HEA then codes " HEA" else if number == register.STK then codes " STK"
    else codes " CIP"

-- the register that is refused, if it is one
abbrev pub register_text : ImageFault → List ℕ
register_text (fault.Register number) = register_named number
register_text fault.Short = []
register_text fault.Magic = []
register_text fault.Version = []
register_text fault.Digest = []
register_text fault.Length = []
register_text fault.DeadCell = []
register_text fault.LiveLength = []

-- the fault's number, and the register that has it
abbrev pub image_line : ImageFault → List ℕ
image_line f = codes "bad image " ++ (decimal (number_of f) ++ (register_text f ++ codes "\n"))

-- it was written, or a front of it
pub record TellsImage {S : Type 0} (f : ImageFault) (says : Says S) (old new : S)
    (answer : Status) : Type 0 where
  pub told : Told
  pub written : says old new (image_line f) told
  pub is : answer ≡ status_told status.BadImage told
