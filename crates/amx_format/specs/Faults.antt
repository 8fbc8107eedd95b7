-- Why bytes are no file: each fault, and which one comes first.
use Rattle.std.specs.Prelude.{◌≡◌, ◌⊎◌, ◌+◌, ◌-◌, ◌≤◌, ℕ, List, [], ◌∷◌, Option, Some, None, Err}
use Rattle.std.specs.Prelude.{true, length, take, drop}
use Rattle.amx_compact.specs.declared.fault.CompactFault.{CompactFault}
use Rattle.amx_compact.specs.declared.fault.CompactFault.TheVariants.{Short, OpenGroup}
use Rattle.amx_compact.specs.declared.fault.CompactFault.TheVariants.{GroupTooLong, TooMany}
use Rattle.amx_compact.specs.declared.fault.CompactFault.TheVariants.{Memory as NoMemory}
use Rattle.amx_compact.specs.Causes.{Answers as CellsAnswer}
use Rattle.amx_format.specs.declared.fault.FormatFault.{FormatFault}
use Rattle.amx_format.specs.declared.fault.FormatFault.TheVariants.{TooShort, Magic, Version}
use Rattle.amx_format.specs.declared.fault.FormatFault.TheVariants.{RecordSize, Order, NameOutside}
use Rattle.amx_format.specs.declared.fault.FormatFault.TheVariants.{NameOpen, SizeDiffers, Compact}
use Rattle.amx_format.specs.declared.fault.FormatFault.TheVariants.{Memory}
use Rattle.amx_format.specs.declared.header.Header.{Header}
use Rattle.amx_format.specs.declared.header.TheConstants.{HEADER, MAGIC, RECORD}
use Rattle.amx_format.specs.Header.{header_of, is_compact, code_cells, store_cells, HasVersions}
use Rattle.amx_format.specs.Header.{HasSize, HasOrder}
use Rattle.amx_format.specs.Records.{AllNames, IsInside, IsClosed}

-- the number that a refusal is printed with
abbrev pub number_of : FormatFault → Option ℕ
number_of TooShort = Some 90
number_of Magic = Some 91
number_of Version = Some 92
number_of RecordSize = Some 93
number_of Order = Some 94
number_of NameOutside = Some 95
number_of NameOpen = Some 96
number_of SizeDiffers = Some 97
number_of (Compact number) = Some number
number_of Memory = None

-- the fault of a file whose compact cells have this one
abbrev pub of_cells : CompactFault → FormatFault
of_cells Short = Compact 80
of_cells OpenGroup = Compact 81
of_cells GroupTooLong = Compact 82
of_cells TooMany = Compact 83
of_cells NoMemory = Memory

-- the bytes of compact cells
abbrev pub row_of : List ℕ → Header → List ℕ
row_of bytes h = take (h.size - h.cod) (drop h.cod bytes)

-- code and data are compact cells, and have this fault
pub record HasCellFault (bytes : List ℕ) (fault : FormatFault) : Type 0 where
  pub compact : is_compact (header_of bytes).flags ≡ true
  pub cause : CompactFault
  pub breaks : CellsAnswer (row_of bytes (header_of bytes))
      (code_cells (header_of bytes) + store_cells (header_of bytes)) (Err cause)
  pub is : fault ≡ of_cells cause

-- the bytes haven't the fault, if those before it aren't there
abbrev pub IsFreeOf : FormatFault → List ℕ → Type 0
IsFreeOf TooShort bytes = HEADER ≤ length bytes
IsFreeOf Magic bytes = (header_of bytes).magic ≡ MAGIC
IsFreeOf Version bytes = HasVersions (header_of bytes)
IsFreeOf RecordSize bytes = (header_of bytes).record_size ≡ RECORD
IsFreeOf SizeDiffers bytes = HasSize (header_of bytes) (length bytes)
IsFreeOf Order bytes = HasOrder (header_of bytes)
IsFreeOf NameOutside bytes = AllNames (IsInside (header_of bytes)) bytes (header_of bytes)
IsFreeOf NameOpen bytes =
    AllNames (IsClosed (take (header_of bytes).cod bytes)) bytes (header_of bytes)
IsFreeOf (Compact number) bytes = ¬ HasCellFault bytes (Compact number)
IsFreeOf Memory bytes = Unit {0}

-- the order in which faults are looked for. Those of cells come behind them
abbrev pub order : List FormatFault
order = TooShort ∷ Magic ∷ Version ∷ RecordSize ∷ SizeDiffers ∷ Order ∷ NameOutside ∷ NameOpen ∷ []

-- the bytes have none of these
abbrev pub IsFreeOfAll : List FormatFault → List ℕ → Type 0
IsFreeOfAll [] bytes = Unit {0}
IsFreeOfAll (it ∷ later) bytes = IsFreeOf it bytes × IsFreeOfAll later bytes

-- the first of these that the bytes have, or behind them all one of cells. Want of memory has no
-- cause
abbrev pub IsFirstOf : List FormatFault → List ℕ → FormatFault → Type 0
IsFirstOf [] bytes fault = HasCellFault bytes fault ⊎ (fault ≡ Memory)
IsFirstOf (it ∷ later) bytes fault =
    ((¬ IsFreeOf it bytes) × (fault ≡ it)) ⊎ (IsFreeOf it bytes × IsFirstOf later bytes fault)

-- the fault that the bytes are refused for
abbrev pub IsFirst : List ℕ → FormatFault → Type 0
IsFirst bytes fault = IsFirstOf order bytes fault
