-- No two lines are spelled as one.
use Rattle.std.proofs.Common.{◌≡◌, ℕ, ℤ, Bool, true, false, not, ◌&&◌, ◌||◌, ◌==◌, List, [], ◌∷◌}
use Rattle.std.proofs.Common.{◌++◌, codes, drop, nat_le, refl, sym, ap, subst, ◌∙◌, append_assoc}
use Rattle.std.proofs.Common.{arith, FitsSigned, w32, leb-true, if◌then◌else◌}
use Rattle.std.specs.List.{list_all}
use Rattle.std.specs.Fmt.{decimal, signed_decimal}
use Rattle.std.proofs.lemmas.Bool.{lt-leb, and_parts, and_from, or_right, true≢false}
use Rattle.std.proofs.lemmas.List.Elements.{All-head, All-drop}
use Rattle.amx_ops.specs.declared.op.Op.{Op}
use Rattle.amx_ops.specs.declared.amx.Record.{Record}
use Rattle.amx_ops.specs.declared.table.Operand.{Operand}
use Rattle.amx_ops.specs.declared.table.Operand.TheVariants as operand
use Rattle.amx_ops.specs.Table.{row_of, number_of, operand_of}
use Rattle.amx_ops.specs.Instructions.{cells_by}
use Rattle.amx_ops.specs.Written.{Written, IsWritten, IsWrittenBy, cells_of}
use Rattle.amx_text.specs.declared.kind.Kind.{Kind}
use Rattle.amx_text.specs.declared.kind.Kind.TheVariants.{Public, Native, Library, Variable, Tag}
use Rattle.amx_text.specs.Lines.{Header, header_text, word_of, record_line, cells_line, name_by}
use Rattle.amx_text.specs.Lines.{address_text}
use Rattle.amx_text.specs.Forms.{Line, HeaderLine, RecordLine, CodeLine, InstructionLine, DataLine}
use Rattle.amx_text.specs.Forms.{CellsLine, EndLine, line_text, Fits, HeaderFits, RecordFits}
use Rattle.amx_text.specs.Forms.{InstructionFits, CellsFit}
use Rattle.amx_text.proofs.PartLaws.{parted, behind}
use Rattle.amx_text.proofs.SpellLaws.{is_numeral, is_hexadecimal, signed_numeral, address_bytes}
use Rattle.amx_text.proofs.SpellLaws.{decimals_parted, signed_parted, addresses_parted}
use Rattle.amx_text.proofs.NameLaws.{is_name, is_named, name_bytes, same_operation}
use Rattle.amx_text.proofs.ShownLaws.{characters, names_parted, cells_stop, cells-cons, same_cells}

-- ---- headers

-- what stands behind each number
abbrev after_room : Header → List ℕ
after_room it = codes " entry " ++ (signed_decimal it.entry ++ codes "\n")

abbrev after_store : Header → List ℕ
after_store it = codes " room " ++ (decimal it.room ++ after_room it)

abbrev after_code : Header → List ℕ
after_code it = codes " data " ++ (decimal it.store ++ after_store it)

abbrev after_version : Header → List ℕ
after_version it = codes " code " ++ (decimal it.code ++ after_code it)

abbrev after_flags : Header → List ℕ
after_flags it = codes " version " ++ (decimal it.version ++ after_version it)

same_header : (a b : Header) → HeaderFits a → HeaderFits b → header_text a ≡ header_text b → a ≡ b
same_header a b h k e =
    let flags =
    decimals_parted a.flags b.flags (after_flags a) (after_flags b) (omega (arith, h.flags.0))
    (omega (arith, k.flags.0)) refl refl
    (behind (codes "amx flags ") (decimal a.flags ++ after_flags a)
    (decimal b.flags ++ after_flags b) e) in
    let version =
    decimals_parted a.version b.version (after_version a) (after_version b)
    (omega (arith, h.version.1)) (omega (arith, k.version.1)) refl refl
    (behind (codes " version ") (decimal a.version ++ after_version a)
    (decimal b.version ++ after_version b) flags.rest) in
    let code =
    decimals_parted a.code b.code (after_code a) (after_code b) h.code k.code refl refl
    (behind (codes " code ") (decimal a.code ++ after_code a) (decimal b.code ++ after_code b)
    version.rest) in
    let store =
    decimals_parted a.store b.store (after_store a) (after_store b) h.store k.store refl refl
    (behind (codes " data ") (decimal a.store ++ after_store a) (decimal b.store ++ after_store b)
    code.rest) in
    let room =
    decimals_parted a.room b.room (after_room a) (after_room b) h.room k.room refl refl
    (behind (codes " room ") (decimal a.room ++ after_room a) (decimal b.room ++ after_room b)
    store.rest) in
    let entry =
    signed_parted a.entry b.entry (codes "\n") (codes "\n") h.entry k.entry refl refl
    (behind (codes " entry ") (signed_decimal a.entry ++ codes "\n")
    (signed_decimal b.entry ++ codes "\n") room.rest) in
    let flags_are : a.flags ≡ b.flags = flags.number in
    let version_is : a.version ≡ b.version = version.number in
    let code_is : a.code ≡ b.code = code.number in
    let store_is : a.store ≡ b.store = store.number in
    let room_is : a.room ≡ b.room = room.number in
    let entry_is : a.entry ≡ b.entry = entry.number in
    λ i. record {
      flags = flags_are i;
      version = version_is i;
      code = code_is i;
      store = store_is i;
      room = room_is i;
      entry = entry_is i;
    }

-- ---- records

-- the table with a word
abbrev kind_by : List ℕ → Kind
kind_by [] = Tag
kind_by (byte ∷ bytes) =
    if byte == 112 then Public
    else (if byte == 110 then Native
    else (if byte == 108 then Library else (if byte == 118 then Variable else Tag)))

kind_is : (kind : Kind) → kind_by (word_of kind) ≡ kind
kind_is Public = refl
kind_is Native = refl
kind_is Library = refl
kind_is Variable = refl
kind_is Tag = refl

-- another byte than the blank
abbrev is_word : ℕ → Bool
is_word byte = not (byte == 32)

word_bytes : (kind : Kind) → list_all is_word (word_of kind) ≡ true
word_bytes Public = refl
word_bytes Native = refl
word_bytes Library = refl
word_bytes Variable = refl
word_bytes Tag = refl

-- what stands behind the address, and behind the word
abbrev after_address : Record → List ℕ
after_address it = (32 ∷ 34 ∷ (characters it.name ++ (34 ∷ []))) ++ (10 ∷ [])

abbrev after_word : Record → List ℕ
after_word it = 32 ∷ (signed_decimal it.address ++ after_address it)

quoted_is : (it : Record) → after_address it ≡ 32 ∷ 34 ∷ (characters it.name ++ (34 ∷ 10 ∷ []))
quoted_is it =
    ap (λ text. 32 ∷ 34 ∷ text) (append_assoc (characters it.name) (34 ∷ []) (10 ∷ []))

same_record : (k l : Kind) (a b : Record) → RecordFits a → RecordFits b
    → record_line (word_of k) a ≡ record_line (word_of l) b → RecordLine k a ≡ RecordLine l b
same_record k l a b h g e =
    let word =
    parted is_word (word_of k) (word_of l) (after_word a) (after_word b) (word_bytes k)
    (word_bytes l) refl refl e in
    let kind : k ≡ l = sym (kind_is k) ∙ ap kind_by word.front ∙ kind_is l in
    let address =
    signed_parted a.address b.address (after_address a) (after_address b) h.address g.address refl
    refl
    (behind (32 ∷ []) (signed_decimal a.address ++ after_address a)
    (signed_decimal b.address ++ after_address b) word.rest) in
    let name =
    names_parted a.name b.name (10 ∷ []) (10 ∷ []) h.bytes g.bytes
    (behind (32 ∷ 34 ∷ []) (characters a.name ++ (34 ∷ 10 ∷ []))
    (characters b.name ++ (34 ∷ 10 ∷ [])) (sym (quoted_is a) ∙ address.rest ∙ quoted_is b)) in
    let address_is : a.address ≡ b.address = address.number in
    let name_is : a.name ≡ b.name = name.number in
    λ i. RecordLine (kind i) (record { address = address_is i; name = name_is i })

-- ---- instructions

record SameOperands (v w : ℤ) (t u : List ℤ) : Type 0 where
  operand : v ≡ w
  table : t ≡ u

operands_by : (n : ℕ) (kind : Operand) (v w : ℤ) (t u : List ℤ) → IsWrittenBy kind v t
    → IsWrittenBy kind w u → drop 1 (cells_by n v kind ++ t) ≡ drop 1 (cells_by n w kind ++ u)
    → SameOperands v w t u
operands_by n operand.Nothing v w t u h k e =
    record { operand = h.0 ∙ sym k.0; table = h.1 ∙ sym k.1 }
operands_by n operand.Cases v w t u h k e = record { operand = cc; table = cc }
operands_by n kind v w t u h k e = record { operand = cc; table = h.1 ∙ sym k.1 }

-- the cells behind the number, of an operation with the operand and table of another instruction
abbrev operands_as : Op → Written → List ℤ
operands_as o it =
    drop 1 (cells_of (record { op = o; operand = it.operand; table = it.table }))

same_written : (a b : Written) → IsWritten a → IsWritten b → a.op ≡ b.op
    → drop 1 (cells_of a) ≡ drop 1 (cells_of b) → a ≡ b
same_written a b h k e d =
    let both =
    operands_by (number_of a.op) (operand_of a.op) a.operand b.operand a.table b.table h
    (subst (λ o. IsWrittenBy (operand_of o) b.operand b.table) (sym e) k)
    (subst (λ o. drop 1 (cells_of a) ≡ operands_as o b) (sym e) d) in
    let operand_is : a.operand ≡ b.operand = both.operand in
    let table_is : a.table ≡ b.table = both.table in
    λ i. record { op = e i; operand = operand_is i; table = table_is i }

named : (name : List ℕ) → is_name name ≡ true → list_all is_named name ≡ true
named [] h = refl
named (byte ∷ name) h = (and_parts (nat_le 58 byte) (list_all is_named (byte ∷ name)) h).1

-- the name and the operands
abbrev after_place : Written → List ℕ
after_place it = name_by (row_of (number_of it.op)) ++ cells_line (drop 1 (cells_of it))

same_instruction : (x y : ℕ) (a b : Written) → InstructionFits x a → InstructionFits y b
    → line_text (InstructionLine x a) ≡ line_text (InstructionLine y b)
    → InstructionLine x a ≡ InstructionLine y b
same_instruction x y a b h k e =
    let address =
    addresses_parted x y (32 ∷ after_place a) (32 ∷ after_place b) h.address k.address refl refl
    e in
    let name =
    parted is_named (name_by (row_of (number_of a.op))) (name_by (row_of (number_of b.op)))
    (cells_line (drop 1 (cells_of a))) (cells_line (drop 1 (cells_of b)))
    (named (name_by (row_of (number_of a.op))) (name_bytes a.op))
    (named (name_by (row_of (number_of b.op))) (name_bytes b.op))
    (cells_stop is_named (drop 1 (cells_of a)) refl refl)
    (cells_stop is_named (drop 1 (cells_of b)) refl refl)
    (behind (32 ∷ []) (after_place a) (after_place b) address.rest) in
    let cells =
    same_cells (drop 1 (cells_of a)) (drop 1 (cells_of b))
    (All-drop (FitsSigned w32) 1 (cells_of a) h.cells)
    (All-drop (FitsSigned w32) 1 (cells_of b) k.cells) name.rest in
    let at_is : x ≡ y = address.number in
    let it : a ≡ b =
    same_written a b h.written k.written (same_operation a.op b.op name.front) cells in
    λ i. InstructionLine (at_is i) (it i)

-- ---- rows of cells

same_row : (x y : ℕ) (a b : List ℤ) → CellsFit x a → CellsFit y b
    → line_text (CellsLine x a) ≡ line_text (CellsLine y b) → CellsLine x a ≡ CellsLine y b
same_row x y a b h k e =
    let address =
    addresses_parted x y (cells_line a) (cells_line b) h.address k.address
    (cells_stop is_hexadecimal a refl refl) (cells_stop is_hexadecimal b refl refl) e in
    let at_is : x ≡ y = address.number in
    let cells : a ≡ b = same_cells a b h.fit k.fit address.rest in
    λ i. CellsLine (at_is i) (cells i)

-- ---- an instruction is no row

-- it begins with a letter
abbrev begins_name : List ℕ → Bool
begins_name [] = false
begins_name (byte ∷ bytes) = nat_le 58 byte

name_begins : (name rest : List ℕ) → is_name name ≡ true → begins_name (name ++ rest) ≡ true
name_begins [] rest h = absurd (true≢false (sym h))
name_begins (byte ∷ name) rest h =
    (and_parts (nat_le 58 byte) (list_all is_named (byte ∷ name)) h).0

number_begins : (number rest : List ℕ) → list_all is_numeral number ≡ true
    → begins_name rest ≡ false → begins_name (number ++ rest) ≡ false
number_begins [] rest h k = k
number_begins (byte ∷ number) rest h k =
    let low = leb-true byte 57 (and_parts (nat_le 45 byte) (nat_le byte 57)
    (and_parts (is_numeral byte) (list_all is_numeral number) h).0).1 in
    lt-leb 58 byte (omega arith)

row_begins : (cells : List ℤ) → begins_name (cells_line cells) ≡ false
row_begins [] = refl
row_begins (cell ∷ cells) = refl

no_row : (x y : ℕ) (a : Written) (b : List ℤ) → InstructionFits x a → CellsFit y b
    → line_text (InstructionLine x a) ≡ line_text (CellsLine y b) → ⊥
no_row x y a [] h k e = omega (arith, k.some)
no_row x y a (cell ∷ cells) h k e =
    let address =
    addresses_parted x y (32 ∷ after_place a) (cells_line (cell ∷ cells)) h.address k.address refl
    refl e in
    let name : List ℕ = name_by (row_of (number_of a.op)) in
    let rest =
    behind (32 ∷ []) (after_place a) (signed_decimal cell ++ cells_line cells)
    (address.rest ∙ cells-cons cell cells) in
    true≢false (sym (name_begins name (cells_line (drop 1 (cells_of a))) (name_bytes a.op))
    ∙ ap begins_name rest
    ∙ number_begins (signed_decimal cell) (cells_line cells)
    (signed_numeral cell (All-head (FitsSigned w32) cell cells k.fit)) (row_begins cells))

-- ---- lines of other kinds

-- bytes up to a blank that are digits of an address
abbrev begins_address : List ℕ → Bool
begins_address [] = false
begins_address (byte ∷ bytes) = byte == 32 || (is_hexadecimal byte && begins_address bytes)

address_begins : (bytes rest : List ℕ) → list_all is_hexadecimal bytes ≡ true
    → begins_address (bytes ++ (32 ∷ rest)) ≡ true
address_begins [] rest h = refl
address_begins (byte ∷ bytes) rest h =
    let both = and_parts (is_hexadecimal byte) (list_all is_hexadecimal bytes) h in
    or_right (byte == 32) (is_hexadecimal byte && begins_address (bytes ++ (32 ∷ rest)))
    (and_from (is_hexadecimal byte) (begins_address (bytes ++ (32 ∷ rest))) both.0
    (address_begins bytes rest both.1))

-- a kind by its first byte
abbrev class_by : ℕ → ℕ
class_by byte =
    if byte == 97 then 0
    else (if byte == 99 then 2 else (if byte == 100 then 4 else (if byte == 101 then 5 else 1)))

abbrev class_at : List ℕ → ℕ
class_at [] = 6
class_at (byte ∷ bytes) = class_by byte

-- a kind by the text of a line: those of instructions and rows are one
abbrev class_in : List ℕ → ℕ
class_in text = if begins_address text then 3 else class_at text

abbrev class_of : Line → ℕ
class_of (HeaderLine it) = 0
class_of (RecordLine kind it) = 1
class_of CodeLine = 2
class_of (InstructionLine at it) = 3
class_of DataLine = 4
class_of (CellsLine at cells) = 3
class_of EndLine = 5

addressed : (text : List ℕ) → begins_address text ≡ true → class_in text ≡ 3
addressed text h = rw h refl

class_is : (line : Line) → Fits line → class_in (line_text line) ≡ class_of line
class_is (HeaderLine it) h = refl
class_is (RecordLine Public it) h = refl
class_is (RecordLine Native it) h = refl
class_is (RecordLine Library it) h = refl
class_is (RecordLine Variable it) h = refl
class_is (RecordLine Tag it) h = refl
class_is CodeLine h = refl
class_is (InstructionLine at it) h =
    addressed (address_text at ++ (32 ∷ after_place it))
    (address_begins (address_text at) (after_place it) (address_bytes at))
class_is DataLine h = refl
class_is (CellsLine at []) h = absurd (omega (arith, h.some))
class_is (CellsLine at (cell ∷ cells)) h =
    addressed (address_text at ++ cells_line (cell ∷ cells))
    (ap (λ row. begins_address (address_text at ++ row)) (cells-cons cell cells)
    ∙ address_begins (address_text at) (signed_decimal cell ++ cells_line cells) (address_bytes at))
class_is EndLine h = refl

same_class : (a b : Line) → Fits a → Fits b → line_text a ≡ line_text b → class_of a ≡ class_of b
same_class a b h k e = sym (class_is a h) ∙ ap class_in e ∙ class_is b k

-- a line that fits its fields is one line alone
pub same_line : (a b : Line) → Fits a → Fits b → line_text a ≡ line_text b → a ≡ b
same_line (HeaderLine a) (HeaderLine b) h k e = ap HeaderLine (same_header a b h k e)
same_line (RecordLine k a) (RecordLine l b) h g e = same_record k l a b h g e
same_line CodeLine CodeLine h k e = refl
same_line (InstructionLine x a) (InstructionLine y b) h k e = same_instruction x y a b h k e
same_line (InstructionLine x a) (CellsLine y b) h k e = absurd (no_row x y a b h k e)
same_line DataLine DataLine h k e = refl
same_line (CellsLine x a) (InstructionLine y b) h k e = absurd (no_row y x b a k h (sym e))
same_line (CellsLine x a) (CellsLine y b) h k e = same_row x y a b h k e
same_line EndLine EndLine h k e = refl
same_line a b h k e = absurd (omega (arith, same_class a b h k e))
