-- Why a text of lines isn't assembled: the faults of its lines in their order, each with the number
-- of its line, from 1.
use Rattle.std.specs.Prelude.{◌≡◌, ◌+◌, ◌*◌, ◌^◌, ◌==◌, ◌&&◌, ◌++◌, ℕ, ℤ, pos, negsuc, List, []}
use Rattle.std.specs.Prelude.{◌∷◌, Bool, true, false, Option, None, Some, if◌then◌else◌, length}
use Rattle.std.specs.Prelude.{filter_map, option_map, nat_lt, nat_le}
use Rattle.std.specs.Option.{option_or}
use Rattle.std.specs.List.{flat_map, position_or_len}
use Rattle.amx_ops.specs.declared.amx.Amx.{Amx}
use Rattle.amx_ops.specs.declared.amx.Record.{Record}
use Rattle.amx_ops.specs.Valid.{Fault, Opcode, Cut, Target, CaseTable, Native, Register, ByteCount}
use Rattle.amx_ops.specs.Valid.{Entry}
use Rattle.amx_ops.specs.Writable.{code_place, memory_limit}
use Rattle.amx_ops.specs.Written.{cells_of}
use Rattle.amx_verify.specs.Verdict.{fault_in}
use Rattle.amx_text.specs.declared.fault.AsmFault.{AsmFault}
use Rattle.amx_text.specs.declared.fault.AsmFault.TheVariants as asm
use Rattle.amx_text.specs.declared.kind.Kind.{Kind}
use Rattle.amx_text.specs.declared.kind.Kind.TheVariants as tables
use Rattle.amx_text.specs.Lines.{Header}
use Rattle.amx_text.specs.Forms.{Line, HeaderLine, RecordLine, InstructionLine, DataLine, CellsLine}
use Rattle.amx_text.specs.Forms.{EndLine, place_of}
use Rattle.amx_text.specs.Texts.{AreLines}

-- the number of a refusal and its line
abbrev pub refusal_of : AsmFault → Option (ℕ × ℕ)
refusal_of (asm.Form line) = Some (140, line)
refusal_of asm.Limit = Some (144, 1)
refusal_of (asm.Address line) = Some (141, line)
refusal_of (asm.Count line) = Some (142, line)
refusal_of (asm.Invalid line) = Some (143, line)
refusal_of asm.Memory = None

-- ---- the file that lines say

-- the record of a line, where it is one of this table
abbrev pub record_in : Kind → Line → Option Record
record_in table (RecordLine kind it) = if place_of table == place_of kind then Some it else None
record_in table line = None

-- the records of a table
abbrev pub records_in : Kind → List Line → List Record
records_in table lines = filter_map (record_in table) lines

-- the cells of the code in a line
abbrev pub code_cells : Line → List ℤ
code_cells (InstructionLine at it) = cells_of it
code_cells line = []

-- the cells of the data in a line
abbrev pub store_cells : Line → List ℤ
store_cells (CellsLine at cells) = cells
store_cells line = []

-- the code of some lines
abbrev pub code_in : List Line → List ℤ
code_in lines = flat_map code_cells lines

-- the data of some lines
abbrev pub store_in : List Line → List ℤ
store_in lines = flat_map store_cells lines

-- the file of a header and lines, whatever the header says of their cells
abbrev pub amx_of : Header → List Line → Amx
amx_of it lines = record {
  flags = it.flags;
  version = it.version;
  code = code_in lines;
  store = store_in lines;
  room = it.room;
  entry = it.entry;
  publics = records_in tables.Public lines;
  natives = records_in tables.Native lines;
  libraries = records_in tables.Library lines;
  variables = records_in tables.Variable lines;
  tags = records_in tables.Tag lines;
}

-- ---- too large a file

-- the file with these tables and as many cells as a header says: its memory is within the limit,
-- and its size, with five bytes a cell, and its stack's top are below 2^31
abbrev pub is_within : Header → Amx → Bool
is_within it amx =
    let cells = it.code + it.store in
    nat_le (4 * (cells + it.room)) memory_limit
    && nat_lt (code_place amx + 5 * cells) (2 ^ 31)
    && nat_lt (code_place amx + 4 * (cells + it.room)) (2 ^ 31)

-- it isn't so
abbrev pub limit_fault : Header → List Line → Option AsmFault
limit_fault it lines = if is_within it (amx_of it lines) then None else Some asm.Limit

-- ---- another address

-- a line's address, if it has one, is four times the cells of its part that stand before it
abbrev pub is_placed : List Line → Line → Bool
is_placed before (InstructionLine at it) = at == 4 * length (code_in before)
is_placed before (CellsLine at cells) = at == 4 * length (store_in before)
is_placed before line = true

-- the first of the lines behind some others whose address is another one
abbrev pub address_fault : List Line → List Line → Option AsmFault
address_fault before [] = None
address_fault before (line ∷ lines) =
    if is_placed before line then address_fault (before ++ line ∷ []) lines
    else Some (asm.Address (length before + 1))

-- ---- another count

-- the line before the data
abbrev pub is_data : Line → Bool
is_data DataLine = true
is_data line = false

-- the last line
abbrev pub is_end : Line → Bool
is_end EndLine = true
is_end line = false

-- the number of the first line of which this is so
abbrev pub number_where : (Line → Bool) → List Line → ℕ
number_where test lines = position_or_len test lines + 1

-- the code hasn't as many cells as the header says, or else the data hasn't
abbrev pub count_fault : Header → List Line → Option AsmFault
count_fault it lines =
    if length (code_in lines) == it.code
    then (if length (store_in lines) == it.store then None
    else Some (asm.Count (number_where is_end lines)))
    else Some (asm.Count (number_where is_data lines))

-- ---- what the verifier refuses

-- the instruction at an address
abbrev pub is_at : ℕ → Line → Bool
is_at at (InstructionLine place it) = place == at
is_at at line = false

-- the line of a fault of code and entries: that of its instruction, or of the public's record,
-- since the publics stand right behind the header, or of the header for main
abbrev pub fault_line : List Line → Fault → ℕ
fault_line lines (Opcode at) = number_where (is_at at) lines
fault_line lines (Cut at) = number_where (is_at at) lines
fault_line lines (Target at) = number_where (is_at at) lines
fault_line lines (CaseTable at) = number_where (is_at at) lines
fault_line lines (Native at) = number_where (is_at at) lines
fault_line lines (Register at) = number_where (is_at at) lines
fault_line lines (ByteCount at) = number_where (is_at at) lines
fault_line lines (Entry (pos n)) = n + 2
fault_line lines (Entry (negsuc n)) = 1

-- the code isn't valid, or an entry begins at no instruction
abbrev pub invalid_fault : Header → List Line → Option AsmFault
invalid_fault it lines =
    option_map (λ (fault : Fault). asm.Invalid (fault_line lines fault))
    (fault_in (amx_of it lines))

-- ---- in their order

-- the first fault of lines that begin with a header
abbrev pub fault_of : Header → List Line → Option AsmFault
fault_of it lines =
    option_or (limit_fault it lines)
    (option_or (address_fault [] lines)
    (option_or (count_fault it lines) (invalid_fault it lines)))

-- a text of lines has this fault first
pub record HasFault (text : List ℕ) (fault : AsmFault) : Type 0 where
  pub header : Header
  pub others : List Line
  pub are : AreLines text (HeaderLine header ∷ others)
  pub first : fault_of header (HeaderLine header ∷ others) ≡ Some fault
