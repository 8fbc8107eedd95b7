-- How the lines of a listing are spelled. Numbers are decimal, with a sign where negative; names
-- stand between quotes as in a trace; the address that begins a line has eight hexadecimal digits.
use denote.Enum.Declared.{tag_of}
use Rattle.std.specs.Prelude.{◌+◌, ◌/◌, ◌%◌, ◌++◌, ℕ, zero, suc, ℤ, pos, List, [], ◌∷◌, Option}
use Rattle.std.specs.Prelude.{None, Some, codes, map, slice_get, nat_lt, if◌then◌else◌}
use Rattle.std.specs.Fmt.{decimal, signed_decimal}
use Rattle.host_script.specs.declared.event.Seen.TheVariants.{Cell, Text}
use Rattle.host_script.specs.Text.{argument_text, arguments_text}
use Rattle.amx_ops.specs.declared.amx.Record.{Record}
use Rattle.amx_ops.specs.declared.op.Op.{Op}
use Rattle.amx_ops.specs.contracts.op.Op.{the_type}
use Rattle.amx_ops.specs.Table.{Row, row_of, table}
pub use Rattle.amx_text.specs.declared.header.Header.{Header}
use Rattle.amx_text.specs.declared.kind.Kind.{Kind}
use Rattle.amx_text.specs.declared.kind.Kind.TheVariants.{Public, Native, Library, Variable, Tag}

-- ---- the header

-- the first line
abbrev pub header_text : Header → List ℕ
header_text it =
    codes "amx flags " ++ (decimal it.flags ++ (codes " version " ++ (decimal it.version
    ++ (codes " code " ++ (decimal it.code
    ++ (codes " data " ++ (decimal it.store
    ++ (codes " room " ++ (decimal it.room
    ++ (codes " entry " ++ (signed_decimal it.entry ++ codes "\n")))))))))))

-- ---- the lines between the parts

-- behind it stand the instructions
abbrev pub code_mark : List ℕ
code_mark = codes "code\n"

-- behind it stand the cells of the data
abbrev pub data_mark : List ℕ
data_mark = codes "data\n"

-- the last line
abbrev pub end_mark : List ℕ
end_mark = codes "end\n"

-- ---- the lines of the parts

-- from 0 to 9, and from a to f
abbrev pub hexadecimal_digit : ℕ → ℕ
hexadecimal_digit n = if nat_lt n 10 then 48 + n else 87 + n

-- so many digits, the lowest last
abbrev pub hexadecimal : ℕ → ℕ → List ℕ
hexadecimal zero n = []
hexadecimal (suc digits) n = hexadecimal digits (n / 16) ++ (hexadecimal_digit (n % 16) ∷ [])

-- the address that begins a line
unfoldable pub address_text : ℕ → List ℕ
address_text at = hexadecimal 8 at

-- a name between its quotes, after one blank
abbrev pub name_text : List ℕ → List ℕ
name_text name = argument_text (Text (map pos name))

-- the word that begins a record's line, by its table
abbrev pub word_of : Kind → List ℕ
word_of Public = codes "public"
word_of Native = codes "native"
word_of Library = codes "library"
word_of Variable = codes "variable"
word_of Tag = codes "tag"

-- a record of a table
abbrev pub record_line : List ℕ → Record → List ℕ
record_line kind it =
    kind ++ (codes " " ++ (signed_decimal it.address ++ (name_text it.name ++ codes "\n")))

-- cells, each after one blank, up to the line's end
abbrev pub cells_line : List ℤ → List ℕ
cells_line cells = arguments_text (map Cell cells) ++ codes "\n"

-- the name in a row of the instruction table
abbrev pub name_by : Option Row → List ℕ
name_by None = []
name_by (Some row) = row.name

-- the name of an operation: the rows stand in the order of the operations
abbrev pub name_of : Op → List ℕ
name_of op = name_by (slice_get table (tag_of the_type op))

-- an instruction with the cells behind its number
abbrev pub instruction_line : ℕ → ℕ → List ℤ → List ℕ
instruction_line at number operands =
    address_text at ++ (codes " " ++ (name_by (row_of number) ++ cells_line operands))

-- cells of the data
abbrev pub data_line : ℕ → List ℤ → List ℕ
data_line at cells = address_text at ++ cells_line cells
