-- The bytes of a file (Implementer's Guide, "File format"): a header, five tables, the name table,
-- the code and the data, whose cells are plain, four bytes each, or compact.
use Rattle.std.specs.Prelude.{◌≡◌, ◌+◌, ◌-◌, ◌/◌, ◌++◌, ℕ, ℤ, List, Bool, true, false, Result, Ok}
use Rattle.std.specs.Prelude.{Err, length}
use Rattle.amx_compact.specs.Spelled.{SpelledAll}
use Rattle.amx_ops.specs.declared.amx.Amx.{Amx}
use Rattle.amx_format.specs.declared.fault.FormatFault.{FormatFault}
use Rattle.amx_format.specs.declared.header.Header.{Header}
use Rattle.amx_format.specs.Numbers.{cells_at}
use Rattle.amx_format.specs.Header.{header_of, is_compact, kept, code_cells, store_cells}
use Rattle.amx_format.specs.Records.{table_at}
use Rattle.amx_format.specs.Faults.{IsFreeOfAll, IsFirst, order, row_of}

-- the cells that stand in a file, compact or not
abbrev pub AreCellsOf : Bool → List ℕ → Header → List ℤ → Type 0
AreCellsOf false bytes h row = row ≡ cells_at bytes h.cod (code_cells h + store_cells h)
AreCellsOf true bytes h row = SpelledAll row (row_of bytes h)

-- they are the code, and behind it the data
pub record HasCells (bytes : List ℕ) (code store : List ℤ) : Type 0 where
  pub code_length : length code ≡ code_cells (header_of bytes)
  pub store_length : length store ≡ store_cells (header_of bytes)
  pub row : AreCellsOf (is_compact (header_of bytes).flags) bytes (header_of bytes) (code ++ store)

-- bytes that are the file of an Amx
pub record IsFile (bytes : List ℕ) (amx : Amx) : Type 0 where
  pub sound : IsFreeOfAll order bytes
  pub flags : amx.flags ≡ kept (header_of bytes).flags
  pub version : amx.version ≡ (header_of bytes).version
  pub cells : HasCells bytes amx.code amx.store
  pub room : amx.room ≡ ((header_of bytes).stp - (header_of bytes).hea) / 4
  pub entry : amx.entry ≡ (header_of bytes).cip
  pub publics : amx.publics ≡ table_at bytes (header_of bytes).publics (header_of bytes).natives
  pub natives : amx.natives ≡ table_at bytes (header_of bytes).natives (header_of bytes).libraries
  pub libraries : amx.libraries ≡ table_at bytes (header_of bytes).libraries
      (header_of bytes).variables
  pub variables : amx.variables ≡ table_at bytes (header_of bytes).variables (header_of bytes).tags
  pub tags : amx.tags ≡ table_at bytes (header_of bytes).tags (header_of bytes).names

-- what reading the bytes answers
abbrev pub Answers : List ℕ → Result Amx FormatFault → Type 0
Answers bytes (Ok amx) = IsFile bytes amx
Answers bytes (Err fault) = IsFirst bytes fault

-- bytes are the file of one Amx at most
abbrev pub AFileIsOfOneAmx : Type 0
AFileIsOfOneAmx = (bytes : List ℕ) (a b : Amx) → IsFile bytes a → IsFile bytes b → a ≡ b
