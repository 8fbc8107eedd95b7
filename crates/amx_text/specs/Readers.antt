-- How the parts of a line are read: each reader takes the one value whose spelling a text begins
-- with, and leaves what stands behind it. Numbers end before the first byte that is no digit.
use denote.Ref.{Bor}
use Rattle.std.specs.Prelude.{◌≡◌, ◌+◌, ◌-◌, ◌*◌, ◌++◌, ◌==◌, ◌&&◌, ◌||◌, ℕ, zero, suc, ℤ, pos}
use Rattle.std.specs.Prelude.{negsuc}
use Rattle.std.specs.Prelude.{◌/◌, ◌%◌, map, false, position, slice_get}
use Rattle.std.specs.Prelude.{List, [], ◌∷◌, Bool, Option, None, Some, Result, Ok, Err, codes}
use Rattle.std.specs.Prelude.{length, take, drop, option_and_then, option_map, nat_lt, nat_le}
use Rattle.std.specs.Prelude.{if◌then◌else◌}
use Rattle.std.specs.Str.{bytes_eq}
use Rattle.std.specs.Fmt.{signed_decimal}
use Rattle.std.specs.Option.{option_or}
use Rattle.pawn_base.specs.declared.memory.Memory.{Memory}
use Rattle.host_script.specs.Text.{stands_for_itself}
use Rattle.amx_ops.specs.declared.amx.Record.{Record}
use Rattle.amx_ops.specs.declared.table.Operand.{Operand}
use Rattle.amx_ops.specs.declared.table.Operand.TheVariants as operand
use Rattle.amx_ops.specs.Table.{Row, table}
use Rattle.amx_text.specs.declared.header.Header.{Header}
use Rattle.amx_text.specs.declared.kind.Kind.{Kind}
use Rattle.amx_text.specs.declared.kind.Kind.TheVariants.{Public, Native, Library, Variable, Tag}
use Rattle.amx_text.specs.Forms.{place_of, RecordFits}
use Rattle.amx_text.specs.Lines.{name_text}

-- ---- what a reader answers

-- it gives the value and the rest that were found, or none
abbrev pub Gives : {X : Type 0} → Option (X × List ℕ) → Option (X × Bor (List ℕ)) → Type 0
Gives found None = found ≡ None
Gives found (Some it) = found ≡ Some (it.0, it.1.now)

-- it leaves the rest that was found, or none
abbrev pub Leaves : Option (List ℕ) → Option (Bor (List ℕ)) → Type 0
Leaves found None = found ≡ None
Leaves found (Some rest) = found ≡ Some rest.now

module _ {X : Type 0} (read : List ℕ → Option (X × List ℕ)) where
  -- values are read one behind another up to some bytes
  abbrev pub Run : List X → List ℕ → List ℕ → Type 0
  Run [] text end = text ≡ end
  Run (x ∷ xs) text end =
      (rest : List ℕ) × ((read text ≡ Some (x, rest)) × Run xs rest end)

-- all that can be read there
pub record Whole {X : Type 0} (read : List ℕ → Option (X × List ℕ)) (xs : List X)
    (text end : List ℕ) : Type 0 where
  pub run : Run read xs text end
  pub stops : read end ≡ None

-- ---- words and numbers

-- what stands behind a word
abbrev pub after_word : List ℕ → List ℕ → Option (List ℕ)
after_word word text =
    if bytes_eq (take (length word) text) word then Some (drop (length word) text) else None

-- a number with a digit behind it, where it fits 32 bits
abbrev pub grown : ℕ → ℕ → ℕ → Option ℕ
grown number radix digit =
    if nat_le (number * radix + digit) 4294967295 then Some (number * radix + digit) else None

-- from 0 to 9
abbrev pub is_digit : ℕ → Bool
is_digit byte = nat_le 48 byte && nat_le byte 57

-- a number that goes on with the digits of a text
abbrev pub number_on : ℕ → List ℕ → Option (ℕ × List ℕ)
number_on number [] = Some (number, [])
number_on number (byte ∷ rest) =
    if is_digit byte
    then option_and_then (λ more. number_on more rest) (grown number 10 (byte - 48))
    else Some (number, byte ∷ rest)

-- a number without a zero at its front, but 0 itself
abbrev pub number_at : List ℕ → Option (ℕ × List ℕ)
number_at [] = None
number_at (byte ∷ rest) =
    if byte == 48 then Some (0, rest)
    else if is_digit byte then number_on (byte - 48) rest
    else None

-- ---- cells

-- the cell that is so far below 0
abbrev pub below_zero : ℕ → Option ℤ
below_zero zero = None
below_zero (suc n) = if nat_le (suc n) 2147483648 then Some (negsuc n) else None

-- a number as a cell
abbrev pub from_zero : ℕ → Option ℤ
from_zero n = if nat_le n 2147483647 then Some (pos n) else None

-- the cell of a number that was read
abbrev pub as_cell : (ℕ → Option ℤ) → Option (ℕ × List ℕ) → Option (ℤ × List ℕ)
as_cell cell found =
    option_and_then (λ (it : ℕ × List ℕ). option_map (λ (z : ℤ). (z, it.1)) (cell it.0)) found

-- a cell, with its sign where it is negative
abbrev pub cell_by : List ℕ → Option (List ℕ) → Option (ℤ × List ℕ)
cell_by text (Some digits) = as_cell below_zero (number_at digits)
cell_by text None = as_cell from_zero (number_at text)

-- by whether a sign stands there
abbrev pub cell_at : List ℕ → Option (ℤ × List ℕ)
cell_at text = cell_by text (after_word (codes "-") text)

-- a cell behind one blank
abbrev pub operand_at : List ℕ → Option (ℤ × List ℕ)
operand_at text = option_and_then cell_at (after_word (codes " ") text)

-- ---- addresses

-- the value of a digit from 0 to 9 and from a to f
abbrev pub hexadecimal_value : ℕ → Option ℕ
hexadecimal_value byte =
    if is_digit byte then Some (byte - 48)
    else if nat_le 97 byte && nat_le byte 102 then Some (byte - 97 + 10)
    else None

-- so many digits more
abbrev pub address_on : ℕ → ℕ → List ℕ → Option (ℕ × List ℕ)
address_on zero address text = Some (address, text)
address_on (suc count) address [] = None
address_on (suc count) address (byte ∷ rest) =
    option_and_then (λ digit. option_and_then (λ more. address_on count more rest)
    (grown address 16 digit)) (hexadecimal_value byte)

-- eight digits
abbrev pub address_at : List ℕ → Option (ℕ × List ℕ)
address_at text = address_on 8 0 text

-- ---- names

-- the byte that is printed as this number
abbrev pub named_by : ℕ → Option ℕ
named_by number =
    if number == 0 || nat_lt 255 number || stands_for_itself number then None else Some number

-- a character by its number, with the semicolon behind it
abbrev pub escaped_at : Option (ℕ × List ℕ) → Option (ℕ × List ℕ)
escaped_at found = option_and_then (λ (it : ℕ × List ℕ). option_and_then (λ (rest : List ℕ).
    option_map (λ (byte : ℕ). (byte, rest)) (named_by it.0)) (after_word (codes ";") it.1)) found

-- a character of a name
abbrev pub character_at : List ℕ → Option (ℕ × List ℕ)
character_at [] = None
character_at (byte ∷ rest) =
    if stands_for_itself byte then Some (byte, rest)
    else if byte == 92 then escaped_at (number_at rest)
    else None

-- ---- lists

-- the characters of a name up to its quote
abbrev pub ReadsName : List ℕ → Result (Option (List ℕ × Bor (List ℕ))) Memory → Type 0
ReadsName text (Err fault) = Unit {0}
ReadsName text (Ok None) =
    (name : List ℕ) × (end : List ℕ) × Whole character_at name text end
    × (after_word (codes "\"") end ≡ None)
ReadsName text (Ok (Some it)) =
    (end : List ℕ) × Whole character_at it.0 text end
    × (after_word (codes "\"") end ≡ Some it.1.now)

-- cells that are put behind others, up to the line's end
pub record PutsCells (text : List ℕ) (old new : List ℤ) (rest : Option (Bor (List ℕ))) : Type 0
  where
    pub cells : List ℤ
    pub end : List ℕ
    pub whole : Whole operand_at cells text end
    pub put : new ≡ old ++ cells
    pub leaves : Leaves (after_word (codes "\n") end) rest

-- unless memory runs out
abbrev pub ReadsCells : List ℕ → List ℤ → List ℤ → Result (Option (Bor (List ℕ))) Memory → Type 0
ReadsCells text old new (Err fault) = Unit {0}
ReadsCells text old new (Ok rest) = PutsCells text old new rest

-- ---- parts of lines

-- the number behind a word
abbrev pub field_at : List ℕ → List ℕ → Option (ℕ × List ℕ)
field_at word text = option_and_then number_at (after_word word text)

-- flags of two bytes with neither of the bits 0x02 and 0x04
abbrev pub fits_flags : ℕ → Bool
fits_flags flags = nat_le flags 65535 && flags / 2 % 4 == 0

-- a version from 1 to 8
abbrev pub fits_version : ℕ → Bool
fits_version version = nat_le 1 version && nat_le version 8

-- a table whose word was found
abbrev pub kind_by : Kind → Option (List ℕ) → Option (Kind × List ℕ)
kind_by kind found = option_map (λ (rest : List ℕ). (kind, rest)) found

-- the table that the word at the front names, with its blank
abbrev pub any_kind_at : List ℕ → Option (Kind × List ℕ)
any_kind_at text =
    option_or (kind_by Public (after_word (codes "public ") text))
    (option_or (kind_by Native (after_word (codes "native ") text))
    (option_or (kind_by Library (after_word (codes "library ") text))
    (option_or (kind_by Variable (after_word (codes "variable ") text))
    (kind_by Tag (after_word (codes "tag ") text)))))

-- this table or a later one
abbrev pub kind_at : Kind → List ℕ → Option (Kind × List ℕ)
kind_at from text = option_and_then (λ (it : Kind × List ℕ).
    if nat_le (place_of from) (place_of it.0) then Some it else None) (any_kind_at text)

-- the names of the instructions
abbrev pub names_of : List (List ℕ)
names_of = map (λ row. row.name) table

-- where the first blank or line's end stands
abbrev pub word_end : List ℕ → Option ℕ
word_end text = position (λ byte. byte == 32 || byte == 10) text

-- the number and the kind of operand of a row
abbrev pub operation_by : Option Row → Option (ℕ × Operand)
operation_by None = None
operation_by (Some row) = Some (row.number, row.operand)

-- those of the instruction with a name
abbrev pub operation_named : List ℕ → Option (ℕ × Operand)
operation_named name = option_and_then (λ (place : ℕ). operation_by (slice_get table place))
    (position (bytes_eq name) names_of)

-- those of the instruction whose name ends there, and what stands behind it
abbrev pub operation_before : List ℕ → ℕ → Option ((ℕ × Operand) × List ℕ)
operation_before text end =
    option_map (λ (it : ℕ × Operand). (it, drop end text)) (operation_named (take end text))

-- behind one blank
abbrev pub operation_at : List ℕ → Option ((ℕ × Operand) × List ℕ)
operation_at text = option_and_then (λ (rest : List ℕ).
    option_and_then (operation_before rest) (word_end rest)) (after_word (codes " ") text)

-- a count that is not negative, a default address and so many pairs
abbrev pub is_counted : List ℤ → Bool
is_counted [] = false
is_counted (pos count ∷ pairs) = length pairs == 1 + 2 * count
is_counted (negsuc n ∷ pairs) = false

-- the cells behind the number of an instruction
abbrev pub has_operands : Operand → List ℤ → Bool
has_operands operand.Nothing cells = length cells == 0
has_operands operand.Cases cells = is_counted cells
has_operands kind cells = length cells == 1

-- ---- the header

-- the line's end behind the entry, and what fits
abbrev pub header_end : Header → List ℕ → Option (Header × List ℕ)
header_end it text = option_and_then (λ (rest : List ℕ).
    if fits_flags it.flags && fits_version it.version then Some (it, rest) else None)
    (after_word (codes "\n") text)

-- the entry
abbrev pub entry_at : ℕ → ℕ → ℕ → ℕ → ℕ × List ℕ → Option (Header × List ℕ)
entry_at flags version code store room = option_and_then (λ (it : ℤ × List ℕ). header_end (record {
  flags = flags;
  version = version;
  code = code;
  store = store;
  room = room.0;
  entry = it.0;
}) it.1) (option_and_then cell_at (after_word (codes " entry ") room.1))

-- from the room on
abbrev pub room_at : ℕ → ℕ → ℕ → ℕ × List ℕ → Option (Header × List ℕ)
room_at flags version code store =
    option_and_then (entry_at flags version code store.0) (field_at (codes " room ") store.1)

-- from the number of data cells on
abbrev pub store_at : ℕ → ℕ → ℕ × List ℕ → Option (Header × List ℕ)
store_at flags version code =
    option_and_then (room_at flags version code.0) (field_at (codes " data ") code.1)

-- from the number of code cells on
abbrev pub code_at : ℕ → ℕ × List ℕ → Option (Header × List ℕ)
code_at flags version =
    option_and_then (store_at flags version.0) (field_at (codes " code ") version.1)

-- from the version on
abbrev pub version_at : ℕ × List ℕ → Option (Header × List ℕ)
version_at flags = option_and_then (code_at flags.0) (field_at (codes " version ") flags.1)

-- the whole line
abbrev pub header_at : List ℕ → Option (Header × List ℕ)
header_at text = option_and_then version_at (field_at (codes "amx flags ") text)

-- ---- records

-- a reader of values that are spelled so takes the one that fits
abbrev pub Reads : {X : Type 0} → (X → Type 0) → (X → List ℕ) → List ℕ
    → Option (X × Bor (List ℕ)) → Type 0
Reads fits spell text (Some it) = fits it.0 × (text ≡ spell it.0 ++ it.1.now)
Reads {X} fits spell text None = (x : X) (rest : List ℕ) → fits x → text ≡ spell x ++ rest → ⊥

-- a record behind its table's word
abbrev pub record_text : Record → List ℕ
record_text it = signed_decimal it.address ++ (name_text it.name ++ codes "\n")

-- unless memory runs out
abbrev pub ReadsRecord : List ℕ → Result (Option (Record × Bor (List ℕ))) Memory → Type 0
ReadsRecord text (Ok found) = Reads RecordFits record_text text found
ReadsRecord text (Err fault) = Unit {0}
