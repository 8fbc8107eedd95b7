-- Each line has one byte 10, its last.
use Rattle.std.proofs.Common.{inl, inr, ◌≡◌, ◌<◌, ◌≤◌, ◌^◌, ℕ, ℤ, Bool, true, not, ◌&&◌, ◌==◌}
use Rattle.std.proofs.Common.{List, [], ◌∷◌, ◌++◌, codes, drop, nat_le, refl, sym, ap, ◌∙◌}
use Rattle.std.proofs.Common.{append_assoc, arith, FitsSigned, w32, leb-true, ne_eqb}
use Rattle.std.specs.List.{list_all}
use Rattle.std.specs.Fmt.{decimal, signed_decimal}
use Rattle.std.proofs.lemmas.Bool.{and_parts, or_cases}
use Rattle.std.proofs.lemmas.List.Elements.{All-head, All-tail, All-drop}
use Rattle.pawn_base.specs.Cells.{AreCells}
use Rattle.amx_ops.specs.declared.amx.Record.{Record}
use Rattle.amx_ops.specs.Table.{row_of, number_of}
use Rattle.amx_ops.specs.Written.{cells_of}
use Rattle.amx_text.specs.declared.kind.Kind.{Kind}
use Rattle.amx_text.specs.declared.kind.Kind.TheVariants.{Public, Native, Library, Variable, Tag}
use Rattle.amx_text.specs.Lines.{Header, header_text, word_of, record_line, cells_line, name_by}
use Rattle.amx_text.specs.Lines.{address_text}
use Rattle.amx_text.specs.Forms.{Line, HeaderLine, RecordLine, CodeLine, InstructionLine, DataLine}
use Rattle.amx_text.specs.Forms.{CellsLine, EndLine, line_text, Fits, HeaderFits, RecordFits}
use Rattle.amx_text.proofs.PartLaws.{all-append, all-weaker}
use Rattle.amx_text.proofs.SpellLaws.{is_numeral, is_hexadecimal, decimal_numeral, signed_numeral}
use Rattle.amx_text.proofs.SpellLaws.{address_bytes}
use Rattle.amx_text.proofs.NameLaws.{is_name, is_named, name_bytes}
use Rattle.amx_text.proofs.ShownLaws.{is_shown, characters, characters_shown, cells-cons}

-- another byte than 10
abbrev pub is_inner : ℕ → Bool
is_inner byte = not (byte == 10)

-- such bytes up to a byte 10
pub record IsLine (text : List ℕ) : Type 0 where
  pub body : List ℕ
  pub inner : list_all is_inner body ≡ true
  pub is : text ≡ body ++ (10 ∷ [])

-- ---- its parts

inner_from : (byte : ℕ) → 11 ≤ byte → is_inner byte ≡ true
inner_from byte h = ap not (ne_eqb byte 10 (λ e. omega arith))

numeral_inner : (byte : ℕ) → is_numeral byte ≡ true → is_inner byte ≡ true
numeral_inner byte h =
    let low = leb-true 45 byte (and_parts (nat_le 45 byte) (nat_le byte 57) h).0 in
    inner_from byte (omega arith)

hexadecimal_inner : (byte : ℕ) → is_hexadecimal byte ≡ true → is_inner byte ≡ true
hexadecimal_inner byte h =
    elim (or_cases (nat_le 48 byte && nat_le byte 57) (nat_le 97 byte && nat_le byte 102) h)
    as (λ _. is_inner byte ≡ true) [
      | inl digit ↦ inner_from byte
          (omega (arith, leb-true 48 byte (and_parts (nat_le 48 byte) (nat_le byte 57) digit).0))
      | inr letter ↦ inner_from byte
          (omega (arith, leb-true 97 byte (and_parts (nat_le 97 byte) (nat_le byte 102) letter).0))
    ]

shown_inner : (byte : ℕ) → is_shown byte ≡ true → is_inner byte ≡ true
shown_inner byte h = inner_from byte (omega (arith, leb-true 32 byte h))

named_inner : (byte : ℕ) → is_named byte ≡ true → is_inner byte ≡ true
named_inner byte h = inner_from byte (omega (arith, leb-true 46 byte h))

decimal_inner : (n : ℕ) → n < 2 ^ 32 → list_all is_inner (decimal n) ≡ true
decimal_inner n h =
    all-weaker is_numeral is_inner numeral_inner (decimal n) (decimal_numeral n h)

signed_inner : (z : ℤ) → FitsSigned w32 z → list_all is_inner (signed_decimal z) ≡ true
signed_inner z h =
    all-weaker is_numeral is_inner numeral_inner (signed_decimal z) (signed_numeral z h)

address_inner : (at : ℕ) → list_all is_inner (address_text at) ≡ true
address_inner at =
    all-weaker is_hexadecimal is_inner hexadecimal_inner (address_text at) (address_bytes at)

name_inner : (name : List ℕ) → is_name name ≡ true → list_all is_inner name ≡ true
name_inner [] h = refl
name_inner (byte ∷ name) h =
    all-weaker is_named is_inner named_inner (byte ∷ name)
    (and_parts (nat_le 58 byte) (list_all is_named (byte ∷ name)) h).1

word_inner : (kind : Kind) → list_all is_inner (word_of kind) ≡ true
word_inner Public = refl
word_inner Native = refl
word_inner Library = refl
word_inner Variable = refl
word_inner Tag = refl

-- ---- lines

alone : IsLine (10 ∷ [])
alone = record { body = []; inner = refl; is = refl }

-- other bytes before a line
before : (bytes text : List ℕ) → list_all is_inner bytes ≡ true → IsLine text
    → IsLine (bytes ++ text)
before bytes text h line = record {
  body = bytes ++ line.body;
  inner = all-append is_inner bytes line.body h line.inner;
  is = ap (λ rest. bytes ++ rest) line.is ∙ sym (append_assoc bytes line.body (10 ∷ []));
}

header_ends : (it : Header) → HeaderFits it → IsLine (header_text it)
header_ends it h =
    before (codes "amx flags ") _ refl
    (before (decimal it.flags) _ (decimal_inner it.flags (omega (arith, h.flags.0)))
    (before (codes " version ") _ refl
    (before (decimal it.version) _ (decimal_inner it.version (omega (arith, h.version.1)))
    (before (codes " code ") _ refl
    (before (decimal it.code) _ (decimal_inner it.code h.code)
    (before (codes " data ") _ refl
    (before (decimal it.store) _ (decimal_inner it.store h.store)
    (before (codes " room ") _ refl
    (before (decimal it.room) _ (decimal_inner it.room h.room)
    (before (codes " entry ") _ refl
    (before (signed_decimal it.entry) _ (signed_inner it.entry h.entry) alone)))))))))))

record_ends : (kind : Kind) (it : Record) → RecordFits it → IsLine (record_line (word_of kind) it)
record_ends kind it h =
    let quoted : list_all is_inner (34 ∷ (characters it.name ++ (34 ∷ []))) ≡ true =
    all-append is_inner (characters it.name) (34 ∷ [])
    (all-weaker is_shown is_inner shown_inner (characters it.name)
    (characters_shown it.name h.bytes)) refl in
    before (word_of kind) _ (word_inner kind)
    (before (codes " ") _ refl
    (before (signed_decimal it.address) _ (signed_inner it.address h.address)
    (before (32 ∷ 34 ∷ (characters it.name ++ (34 ∷ []))) _ quoted alone)))

pub cells_end : (cells : List ℤ) → AreCells cells → IsLine (cells_line cells)
cells_end [] h = alone
cells_end (cell ∷ cells) h =
    let rest = before (codes " ") _ refl
    (before (signed_decimal cell) _ (signed_inner cell (All-head (FitsSigned w32) cell cells h))
    (cells_end cells (All-tail (FitsSigned w32) cell cells h))) in
    record { body = rest.body; inner = rest.inner; is = cells-cons cell cells ∙ rest.is }

-- what fits its fields is one line
pub line_ends : (line : Line) → Fits line → IsLine (line_text line)
line_ends (HeaderLine it) h = header_ends it h
line_ends (RecordLine kind it) h = record_ends kind it h
line_ends CodeLine h = before (codes "code") (10 ∷ []) refl alone
line_ends (InstructionLine at it) h =
    before (address_text at) _ (address_inner at)
    (before (codes " ") _ refl
    (before (name_by (row_of (number_of it.op))) _
    (name_inner (name_by (row_of (number_of it.op))) (name_bytes it.op))
    (cells_end (drop 1 (cells_of it)) (All-drop (FitsSigned w32) 1 (cells_of it) h.cells))))
line_ends DataLine h = before (codes "data") (10 ∷ []) refl alone
line_ends (CellsLine at cells) h =
    before (address_text at) _ (address_inner at) (cells_end cells h.fit)
line_ends EndLine h = before (codes "end") (10 ∷ []) refl alone
