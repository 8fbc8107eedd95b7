-- The first fault of bytes that are no image of a state that a file's machine can be set to.
use Rattle.std.specs.Prelude.{◌+◌, ◌-◌, ◌*◌, ◌/◌, ◌%◌, ◌^◌, ◌==◌, ◌&&◌, ℕ, ℤ, pos, List, [], ◌∷◌}
use Rattle.std.specs.Prelude.{Bool, true, not, Option, None, Some, length, take, drop, bytes_eq}
use Rattle.std.specs.Prelude.{nat_le, nat_lt, if◌then◌else◌}
use Rattle.pawn_cells.specs.Cells.{bits_of, equal}
use Rattle.amx_ops.specs.declared.amx.Amx.{Amx}
use Rattle.amx_ops.specs.Instructions.{is_start}
use Rattle.amx_ops.specs.State.{first_hea}
use Rattle.amx_step.specs.declared.host_registers.Registers.{Registers}
use Rattle.amx_format.specs.Numbers.{half_at, word_at, cells_at}
use Rattle.amx_image.specs.declared.fault.ImageFault.{ImageFault}
use Rattle.amx_image.specs.declared.fault.ImageFault.TheVariants as fault
use Rattle.amx_image.specs.declared.fault.TheConstants as register
use Rattle.amx_image.specs.declared.version.Version.{Version}
use Rattle.amx_image.specs.declared.version.Version.TheVariants.{Whole, Live}
use Rattle.amx_image.specs.declared.place.TheConstants.{MAGIC, VERSION, ZERO, DIGEST, COUNT, CELLS}
use Rattle.amx_image.specs.Version.{version_of}
use Rattle.amx_image.specs.Image.{registers_at}

-- the number that a refusal is printed with
abbrev pub number_of : ImageFault → ℕ
number_of fault.Short = 120
number_of fault.Magic = 121
number_of fault.Version = 122
number_of fault.Digest = 123
number_of fault.Length = 124
number_of (fault.Register which) = 125
number_of fault.DeadCell = 126
number_of fault.LiveLength = 127

-- ---- tests

-- an image begins with these four bytes
abbrev pub has_magic : List ℕ → Bool
has_magic bytes = bytes_eq (take 4 bytes) MAGIC

-- none where the number isn't one, or isn't followed by 0
abbrev pub version_in : List ℕ → Option Version
version_in bytes = if half_at bytes ZERO == 0 then version_of (half_at bytes VERSION) else None

-- it is of this file
abbrev pub has_digest : List ℕ → List ℕ → Bool
has_digest digest bytes = bytes_eq (take 32 (drop DIGEST bytes)) digest

-- so many cells from the data's first one to the stack's top; in version 1 they all stand there
abbrev pub has_count : Version → ℕ → List ℕ → Bool
has_count Whole count bytes = (word_at bytes COUNT == count) && (length bytes == CELLS + 4 * count)
has_count Live count bytes = word_at bytes COUNT == count

-- in whole cells, and with a sign not below the data's end
abbrev pub is_heap : ℕ → ℕ → Bool
is_heap first hea = (hea % 4 == 0) && nat_lt hea (2 ^ 31) && nat_le first hea

-- in whole cells, from the heap to the top
abbrev pub is_stack : ℕ → ℕ → ℕ → Bool
is_stack count hea stk = (stk % 4 == 0) && nat_le hea stk && nat_le stk (4 * count)

-- each of some cells is 0
abbrev pub are_zero : List ℤ → Bool
are_zero [] = true
are_zero (cell ∷ cells) = equal cell (pos 0) && are_zero cells

-- in version 1 the dead cells are 0; in version 2 the live ones stand there, and no more
abbrev pub has_cells : Version → ℕ → ℕ → ℕ → List ℕ → Bool
has_cells Whole count hea stk bytes = are_zero (cells_at bytes (CELLS + hea) ((stk - hea) / 4))
has_cells Live count hea stk bytes = length bytes == CELLS + (hea + (4 * count - stk))

-- the fault of cells that aren't as the version wants them
abbrev pub cells_fault : Version → ImageFault
cells_fault Whole = fault.DeadCell
cells_fault Live = fault.LiveLength

-- ---- their order

-- of the registers and the cells
unfoldable pub state_fault : Amx → ℕ → Version → Registers → List ℕ → Option ImageFault
state_fault amx count version r bytes =
    if not (is_heap (first_hea amx) (bits_of r.hea)) then Some (fault.Register register.HEA)
    else if not (is_stack count (bits_of r.hea) (bits_of r.stk))
    then Some (fault.Register register.STK)
    else if not (is_start amx.code (bits_of r.cip)) then Some (fault.Register register.CIP)
    else if not (has_cells version count (bits_of r.hea) (bits_of r.stk) bytes)
    then Some (cells_fault version)
    else None

-- behind the version
unfoldable pub fault_behind : Amx → ℕ → List ℕ → List ℕ → Option Version → Option ImageFault
fault_behind amx count digest bytes None = Some fault.Version
fault_behind amx count digest bytes (Some version) =
    if not (has_digest digest bytes) then Some fault.Digest
    else if not (has_count version count bytes) then Some fault.Length
    else state_fault amx count version (registers_at bytes) bytes

-- of bytes as an image for a file whose machine has so many cells
unfoldable pub first_fault : Amx → ℕ → List ℕ → List ℕ → Option ImageFault
first_fault amx count digest bytes =
    if nat_lt (length bytes) CELLS then Some fault.Short
    else if not (has_magic bytes) then Some fault.Magic
    else fault_behind amx count digest bytes (version_in bytes)
