-- The file that the writer makes (Implementer's Guide, "File format"): its parts in order, with
-- nothing between them but zero bytes before the code.
use Rattle.std.specs.Prelude.{◌≡◌, ◌+◌, ◌-◌, ◌*◌, ℕ, zero, suc, ℤ, List, [], ◌∷◌, ◌++◌, length}
use Rattle.std.specs.Int.{w32, cast_unsigned}
use Rattle.byteorder.specs.Endian.{little_bytes}
use Rattle.amx_compact.specs.Spelled.{ShortestAll}
use Rattle.amx_ops.specs.declared.amx.Amx.{Amx}
use Rattle.amx_ops.specs.declared.amx.Record.{Record}
use Rattle.amx_ops.specs.Writable.{table_size, name_place, names_end, code_place}
use Rattle.amx_format.specs.declared.header.Header.{Header}
use Rattle.amx_format.specs.declared.header.TheConstants.{HEADER, MAGIC, FILE_VERSION, RECORD}
use Rattle.amx_format.specs.declared.header.TheConstants.{COMPACT as COMPACT_FLAG}
use Rattle.amx_format.specs.declared.writer.TheConstants.{NAME_LENGTH}
use Rattle.amx_format.specs.declared.encoding.Encoding.{Encoding}
use Rattle.amx_format.specs.declared.encoding.Encoding.TheVariants.{Plain, Compact}

-- a number in two bytes
unfoldable pub half : ℕ → List ℕ
half number = little_bytes 2 number

-- a number in four bytes
unfoldable pub word : ℕ → List ℕ
word number = little_bytes 4 number

-- numbers, four bytes each
abbrev pub words : List ℕ → List ℕ
words [] = []
words (number ∷ rest) = word number ++ words rest

-- cells, four bytes each
abbrev pub cells : List ℤ → List ℕ
cells [] = []
cells (cell ∷ rest) = word (cast_unsigned w32 cell) ++ cells rest

-- records, whose names stand one behind the other from a place on
abbrev pub table : ℕ → List Record → List ℕ
table place [] = []
table place (it ∷ records) =
    word (cast_unsigned w32 it.address)
    ++ (word place ++ table (place + (length it.name + 1)) records)

-- names, each with a zero byte behind it
abbrev pub names : List Record → List ℕ
names [] = []
names (it ∷ records) = it.name ++ (0 ∷ names records)

-- what fills the gap between the names and the code
abbrev pub zeros : ℕ → List ℕ
zeros zero = []
zeros (suc n) = 0 ∷ zeros n

-- the records of the five tables in their order
abbrev pub all_records : Amx → List Record
all_records amx = amx.publics ++ (amx.natives ++ (amx.libraries ++ (amx.variables ++ amx.tags)))

-- where the tables stand, the first behind the header
abbrev pub natives_place : Amx → ℕ
natives_place amx = HEADER + table_size amx.publics

-- behind the table of natives
abbrev pub libraries_place : Amx → ℕ
libraries_place amx = natives_place amx + table_size amx.natives

-- behind that of libraries
abbrev pub variables_place : Amx → ℕ
variables_place amx = libraries_place amx + table_size amx.libraries

-- behind that of public variables
abbrev pub tags_place : Amx → ℕ
tags_place amx = variables_place amx + table_size amx.variables

-- where the data stand, and where they end, once the cells are plain
abbrev pub data_place : Amx → ℕ
data_place amx = code_place amx + 4 * length amx.code

-- behind the data
abbrev pub heap_place : Amx → ℕ
heap_place amx = data_place amx + 4 * length amx.store

-- the flag of an encoding
abbrev pub flag_of : Encoding → ℕ
flag_of Plain = 0
flag_of Compact = COMPACT_FLAG

-- the header of a file whose cells take so many bytes
abbrev pub layout_header : Encoding → Amx → ℕ → Header
layout_header encoding amx row = record {
  size = code_place amx + row;
  magic = MAGIC;
  file_version = FILE_VERSION;
  version = amx.version;
  flags = amx.flags + flag_of encoding;
  record_size = RECORD;
  cod = code_place amx;
  dat = data_place amx;
  hea = heap_place amx;
  stp = heap_place amx + 4 * amx.room;
  cip = amx.entry;
  publics = HEADER;
  natives = natives_place amx;
  libraries = libraries_place amx;
  variables = variables_place amx;
  tags = tags_place amx;
  names = name_place amx;
}

-- its fields, each at its place
abbrev pub header_bytes : Header → List ℕ
header_bytes h =
    word h.size ++ (half h.magic ++
    (h.file_version ∷ h.version ∷ (half h.flags ++ (half h.record_size ++ words (h.cod ∷ h.dat
    ∷ h.hea ∷ h.stp ∷ cast_unsigned w32 h.cip ∷ h.publics ∷ h.natives ∷ h.libraries ∷ h.variables
    ∷ h.tags ∷ h.names ∷ [])))))

-- the bytes of code and data
abbrev pub IsRow : Encoding → List ℤ → List ℕ → Type 0
IsRow Plain list row = row ≡ cells list
IsRow Compact list row = ShortestAll list row

-- the header, the tables, the greatest length of a name, the names, zero bytes, code and data
abbrev pub layout : Encoding → Amx → List ℕ → List ℕ
layout encoding amx row =
    header_bytes (layout_header encoding amx (length row))
    ++ (table (name_place amx + 2) (all_records amx)
    ++ (half NAME_LENGTH ++ (names (all_records amx)
    ++ (zeros (code_place amx - names_end amx) ++ row))))

-- the bytes are such a layout, with code and data as the encoding allows
pub record IsLayout (encoding : Encoding) (amx : Amx) (bytes : List ℕ) : Type 0 where
  pub row : List ℕ
  pub is_row : IsRow encoding (amx.code ++ amx.store) row
  pub is : bytes ≡ layout encoding amx row
