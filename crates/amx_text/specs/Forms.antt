-- The forms of lines: how a line of each kind is spelled, whether its numbers and its name fit
-- their fields, and which line may follow which.
use Rattle.std.specs.Prelude.{◌≡◌, ◌/◌, ◌%◌, ◌^◌, ◌<◌, ◌≤◌, ◌==◌, ℕ, ℤ, List, Bool, true, false}
use Rattle.std.specs.Prelude.{Option, None, Some, All, FitsSigned, length, drop, nat_le}
use Rattle.std.specs.Int.{w32}
use Rattle.pawn_base.specs.Cells.{AreCells}
use Rattle.amx_ops.specs.declared.amx.Record.{Record}
use Rattle.amx_ops.specs.Table.{number_of}
use Rattle.amx_ops.specs.Writable.{IsWritableName}
use Rattle.amx_ops.specs.Written.{Written, IsWritten, cells_of}
use Rattle.amx_text.specs.declared.kind.Kind.{Kind}
use Rattle.amx_text.specs.declared.kind.Kind.TheVariants.{Public, Native, Library, Variable, Tag}
use Rattle.amx_text.specs.declared.listing.TheConstants.{WIDTH}
use Rattle.amx_text.specs.Lines.{Header, header_text, code_mark, data_mark, end_mark, word_of}
use Rattle.amx_text.specs.Lines.{record_line, instruction_line, data_line}

-- a line, by its kind: an instruction and a row of cells have the address that begins the line
pub data Line : Type 0 where
  HeaderLine : Header → Line
  RecordLine : Kind → Record → Line
  CodeLine : Line
  InstructionLine : ℕ → Written → Line
  DataLine : Line
  CellsLine : ℕ → List ℤ → Line
  EndLine : Line

-- ---- how it is spelled

-- with its byte 10
abbrev pub line_text : Line → List ℕ
line_text (HeaderLine it) = header_text it
line_text (RecordLine kind it) = record_line (word_of kind) it
line_text CodeLine = code_mark
line_text (InstructionLine at it) = instruction_line at (number_of it.op) (drop 1 (cells_of it))
line_text DataLine = data_mark
line_text (CellsLine at cells) = data_line at cells
line_text EndLine = end_mark

-- ---- what fits its field

-- the numbers of a header
pub record HeaderFits (it : Header) : Type 0 where
  -- two bytes with neither of the bits 0x02 and 0x04
  pub flags : (it.flags < 2 ^ 16) × (it.flags / 2 % 4 ≡ 0)
  pub version : (1 ≤ it.version) × (it.version ≤ 8)
  pub code : it.code < 2 ^ 32
  pub store : it.store < 2 ^ 32
  pub room : it.room < 2 ^ 32
  pub entry : FitsSigned w32 it.entry

-- the number and the name of a record
pub record RecordFits (it : Record) : Type 0 where
  pub address : FitsSigned w32 it.address
  pub bytes : All (λ byte. byte < 256) it.name
  pub name : IsWritableName it

-- an instruction with all that stands behind its number, at an address of eight digits
pub record InstructionFits (at : ℕ) (it : Written) : Type 0 where
  pub address : at < 2 ^ 32
  pub written : IsWritten it
  pub cells : AreCells (cells_of it)

-- some cells, but not too many for a line, at an address of eight digits
pub record CellsFit (at : ℕ) (cells : List ℤ) : Type 0 where
  pub address : at < 2 ^ 32
  pub some : 1 ≤ length cells
  pub few : length cells ≤ WIDTH
  pub fit : AreCells cells

-- what a line holds fits its fields
abbrev pub Fits : Line → Type 0
Fits (HeaderLine it) = HeaderFits it
Fits (RecordLine kind it) = RecordFits it
Fits (InstructionLine at it) = InstructionFits at it
Fits (CellsLine at cells) = CellsFit at cells
Fits CodeLine = Unit {0}
Fits DataLine = Unit {0}
Fits EndLine = Unit {0}

-- ---- which may follow which

-- the tables in their order
abbrev pub place_of : Kind → ℕ
place_of Public = 0
place_of Native = 1
place_of Library = 2
place_of Variable = 3
place_of Tag = 4

-- the header, then records table by table, then the code, then the data, whose last line alone may
-- have fewer cells, then the end
abbrev pub may_follow : Option Line → Line → Bool
may_follow None (HeaderLine it) = true
may_follow (Some (HeaderLine it)) (RecordLine kind next) = true
may_follow (Some (HeaderLine it)) CodeLine = true
may_follow (Some (RecordLine kind it)) (RecordLine other next) =
    nat_le (place_of kind) (place_of other)
may_follow (Some (RecordLine kind it)) CodeLine = true
may_follow (Some CodeLine) (InstructionLine at next) = true
may_follow (Some CodeLine) DataLine = true
may_follow (Some (InstructionLine at it)) (InstructionLine place next) = true
may_follow (Some (InstructionLine at it)) DataLine = true
may_follow (Some DataLine) (CellsLine at cells) = true
may_follow (Some DataLine) EndLine = true
may_follow (Some (CellsLine at cells)) (CellsLine place others) = length cells == WIDTH
may_follow (Some (CellsLine at cells)) EndLine = true
may_follow before line = false
