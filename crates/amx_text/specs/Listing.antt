-- The listing of a file: its header, its records, its code instruction by instruction, and its data
-- in lines of up to eight cells.
use Rattle.std.specs.Prelude.{◌+◌, ◌-◌, ◌/◌, ◌++◌, ℕ, zero, suc, ℤ, List, [], ◌∷◌, length}
use Rattle.std.specs.Prelude.{take, drop}
use Rattle.std.specs.List.{flat_map}
use Rattle.amx_ops.specs.declared.amx.Amx.{Amx}
use Rattle.amx_ops.specs.declared.amx.Record.{Record}
use Rattle.amx_ops.specs.Instructions.{Placed, placed}
use Rattle.amx_text.specs.declared.listing.TheConstants.{WIDTH}
use Rattle.amx_text.specs.declared.kind.Kind.TheVariants.{Public, Native, Library, Variable, Tag}
use Rattle.amx_text.specs.Lines.{Header, header_text, code_mark, data_mark, end_mark, word_of}
use Rattle.amx_text.specs.Lines.{record_line, instruction_line, data_line}

-- the lengths of code, data and room are in cells
abbrev pub header_of : Amx → Header
header_of amx = record {
  flags = amx.flags;
  version = amx.version;
  code = length amx.code;
  store = length amx.store;
  room = amx.room;
  entry = amx.entry;
}

-- the first line
abbrev pub header_line : Amx → List ℕ
header_line amx = header_text (header_of amx)

-- a line for each record, which begins with its kind
abbrev pub record_lines : List ℕ → List Record → List ℕ
record_lines kind records = flat_map (record_line kind) records

-- all tables, in their order in a file
abbrev pub table_lines : Amx → List ℕ
table_lines amx =
    record_lines (word_of Public) amx.publics ++ (record_lines (word_of Native) amx.natives
    ++ (record_lines (word_of Library) amx.libraries
    ++ (record_lines (word_of Variable) amx.variables
    ++ record_lines (word_of Tag) amx.tags)))

-- the cells behind an instruction's number
abbrev pub operands_of : List ℤ → Placed → List ℤ
operands_of code it = take (it.instr.cells - 1) (drop (it.at / 4 + 1) code)

-- an instruction at its address
abbrev pub line_of : List ℤ → Placed → List ℕ
line_of code it = instruction_line it.at it.instr.op (operands_of code it)

-- from the first instruction to the last
abbrev pub code_lines : List ℤ → List ℕ
code_lines code = flat_map (line_of code) (placed code)

-- the lines of cells from an address on, the first so many of which stand in the line before
abbrev pub data_from : ℕ → ℕ → List ℤ → List ℕ
data_from at passed [] = []
data_from at (suc passed) (cell ∷ cells) = data_from (at + 4) passed cells
data_from at zero (cell ∷ cells) =
    data_line at (take WIDTH (cell ∷ cells)) ++ data_from (at + 4) (WIDTH - 1) cells

-- the whole text
abbrev pub listing : Amx → List ℕ
listing amx =
    header_line amx ++ (table_lines amx ++ (code_mark ++ (code_lines amx.code
    ++ (data_mark ++ (data_from 0 0 amx.store ++ end_mark)))))
