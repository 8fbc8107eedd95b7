-- The header of a file (Implementer's Guide, "File format"): what its fields read as, and what they
-- keep.
use Rattle.std.specs.Prelude.{◌≡◌, ◌+◌, ◌-◌, ◌*◌, ◌/◌, ◌%◌, ◌^◌, ◌<◌, ◌≤◌, ◌==◌, ℕ, List, Bool}
use Rattle.std.specs.Prelude.{true, false, slice_index}
use Rattle.amx_ops.specs.Writable.{memory_limit}
use Rattle.amx_format.specs.declared.header.Header.{Header}
use Rattle.amx_format.specs.declared.header.TheConstants.{HEADER, FILE_VERSION as format}
use Rattle.amx_format.specs.declared.header.TheConstants.{LAST_VERSION, RECORD as record_bytes}
use Rattle.amx_format.specs.declared.header.TheConstants.{GOES_ON, COMPACT}
use Rattle.amx_format.specs.declared.place.TheConstants.{SIZE, MAGIC, FILE_VERSION, VERSION, FLAGS}
use Rattle.amx_format.specs.declared.place.TheConstants.{RECORD, COD, DAT, HEA, STP, CIP, PUBLICS}
use Rattle.amx_format.specs.declared.place.TheConstants.{NATIVES, LIBRARIES, VARIABLES, TAGS, NAMES}
use Rattle.amx_format.specs.Numbers.{half_at, word_at, cell_at}

-- each field at its offset from the file's first byte
unfoldable pub header_of : List ℕ → Header
header_of bytes = record {
  size = word_at bytes SIZE;
  magic = half_at bytes MAGIC;
  file_version = slice_index bytes FILE_VERSION;
  version = slice_index bytes VERSION;
  flags = half_at bytes FLAGS;
  record_size = half_at bytes RECORD;
  cod = word_at bytes COD;
  dat = word_at bytes DAT;
  hea = word_at bytes HEA;
  stp = word_at bytes STP;
  cip = cell_at bytes CIP;
  publics = word_at bytes PUBLICS;
  natives = word_at bytes NATIVES;
  libraries = word_at bytes LIBRARIES;
  variables = word_at bytes VARIABLES;
  tags = word_at bytes TAGS;
  names = word_at bytes NAMES;
}

-- code and data are compact cells
abbrev pub is_compact : ℕ → Bool
is_compact flags = flags / COMPACT % 2 == 1

-- bytes may stand behind the size
abbrev pub may_go_on : ℕ → Bool
may_go_on flags = flags / GOES_ON % 2 == 1

-- the flags without these two
abbrev pub kept : ℕ → ℕ
kept flags = flags / 8 * 8 + flags % 2

-- a part from a place to another, in units of so many bytes
pub record IsPart (unit first past : ℕ) : Type 0 where
  pub rises : first ≤ past
  pub whole : (past - first) % unit ≡ 0

-- the file's version is the format's, and it asks for a version of the machine that is known
pub record HasVersions (h : Header) : Type 0 where
  pub format : h.file_version ≡ format
  pub first : 1 ≤ h.version
  pub last : h.version ≤ LAST_VERSION

-- a size, not below 0 as a number with a sign, of the bytes or of their front, and of plain cells
-- that of the file up to the heap
pub record HasSize (h : Header) (bytes : ℕ) : Type 0 where
  pub least : HEADER ≤ h.size
  pub signed : h.size < 2 ^ 31
  pub within : h.size ≤ bytes
  pub whole : may_go_on h.flags ≡ false → h.size ≡ bytes
  pub plain : is_compact h.flags ≡ false → h.size ≡ h.hea

-- the tables one behind the other, then the name table and the code
pub record HasTables (h : Header) : Type 0 where
  pub first : HEADER ≤ h.publics
  pub publics : IsPart record_bytes h.publics h.natives
  pub natives : IsPart record_bytes h.natives h.libraries
  pub libraries : IsPart record_bytes h.libraries h.variables
  pub variables : IsPart record_bytes h.variables h.tags
  pub tags : IsPart record_bytes h.tags h.names
  pub names : h.names + 2 ≤ h.cod

-- the code, the data, and the room for heap and stack, which isn't in the file
pub record HasParts (h : Header) : Type 0 where
  pub code : IsPart 4 h.cod h.dat
  pub store : IsPart 4 h.dat h.hea
  pub room : IsPart 4 h.hea h.stp
  pub memory : h.stp - h.cod ≤ memory_limit
  pub top : h.stp < 2 ^ 31
  pub row : is_compact h.flags ≡ true → h.cod ≤ h.size

-- each part that the header tells of begins where the one before ends
pub record HasOrder (h : Header) : Type 0 where
  pub tables : HasTables h
  pub parts : HasParts h

-- how many cells are the code, once they are plain
abbrev pub code_cells : Header → ℕ
code_cells h = (h.dat - h.cod) / 4

-- and how many are the data
abbrev pub store_cells : Header → ℕ
store_cells h = (h.hea - h.dat) / 4
