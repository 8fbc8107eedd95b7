-- What the lines that are put into a draft leave in each of its fields.
use Rattle.std.proofs.Common.{◌≡◌, ◌∙◌, ◌+◌, ◌*◌, ◌==◌, ◌++◌, ℕ, ℤ, List, [], ◌∷◌, Bool, true}
use Rattle.std.proofs.Common.{false}
use Rattle.std.proofs.Common.{Option, None, Some, length, refl, sym, ap, arith, append_assoc}
use Rattle.std.proofs.Common.{append-nil, length-append}
use Rattle.std.specs.Prelude.{if◌then◌else◌}
use Rattle.std.specs.List.{flat_map, filter_map, cons_option}
use Rattle.std.specs.Option.{option_or}
use Rattle.std.proofs.lemmas.Bool.{and_parts}
use Rattle.std.proofs.lemmas.List.Concat.{flat_map-append}
use Rattle.amx_text.specs.declared.draft.Draft.{Draft}
use Rattle.amx_text.specs.declared.fault.AsmFault.{AsmFault}
use Rattle.amx_text.specs.declared.fault.AsmFault.TheVariants as asm
use Rattle.amx_text.specs.declared.header.Header.{Header}
use Rattle.amx_text.specs.declared.kind.Kind.TheVariants.{Public, Native, Library, Variable, Tag}
use Rattle.amx_text.specs.Forms.{Line, HeaderLine, RecordLine, CodeLine, InstructionLine, DataLine}
use Rattle.amx_text.specs.Forms.{CellsLine, EndLine, may_follow}
use Rattle.amx_text.specs.Texts.{are_in_order}
use Rattle.amx_text.specs.Faults.{record_in, records_in, code_cells, store_cells, code_in, store_in}
use Rattle.amx_text.specs.Faults.{amx_of, is_placed, address_fault}
use Rattle.amx_text.specs.Drafts.{put, puts, empty_draft, header_by, noted, address_by}
use Rattle.amx_text.proofs.DraftLaws.{put_lines}

-- ---- what is gathered line by line

gathers : {X : Type 0} (f : Draft → List X) (g : Line → List X)
    → ((line : Line) (draft : Draft) → f (put line draft) ≡ f draft ++ g line)
    → (lines : List Line) (draft : Draft) → f (puts lines draft) ≡ f draft ++ flat_map g lines
gathers f g h [] draft = sym (append-nil (f draft))
gathers f g h (line ∷ lines) draft =
    gathers f g h lines (put line draft)
    ∙ ap (λ xs. xs ++ flat_map g lines) (h line draft)
    ∙ append_assoc (f draft) (g line) (flat_map g lines)

picked : {X : Type 0} (o : Option X) (xs ys : List X)
    → (xs ++ cons_option o []) ++ ys ≡ xs ++ cons_option o ys
picked None xs ys = ap (λ zs. zs ++ ys) (append-nil xs)
picked (Some x) xs ys = append_assoc xs (x ∷ []) ys

picks : {X : Type 0} (f : Draft → List X) (g : Line → Option X)
    → ((line : Line) (draft : Draft) → f (put line draft) ≡ f draft ++ cons_option (g line) [])
    → (lines : List Line) (draft : Draft) → f (puts lines draft) ≡ f draft ++ filter_map g lines
picks f g h [] draft = sym (append-nil (f draft))
picks f g h (line ∷ lines) draft =
    picks f g h lines (put line draft)
    ∙ ap (λ xs. xs ++ filter_map g lines) (h line draft)
    ∙ picked (g line) (f draft) (filter_map g lines)

-- ---- code, data and addresses

put_code : (line : Line) (draft : Draft)
    → (put line draft).amx.code ≡ draft.amx.code ++ code_cells line
put_code (HeaderLine it) draft = sym (append-nil draft.amx.code)
put_code (RecordLine Public it) draft = sym (append-nil draft.amx.code)
put_code (RecordLine Native it) draft = sym (append-nil draft.amx.code)
put_code (RecordLine Library it) draft = sym (append-nil draft.amx.code)
put_code (RecordLine Variable it) draft = sym (append-nil draft.amx.code)
put_code (RecordLine Tag it) draft = sym (append-nil draft.amx.code)
put_code CodeLine draft = sym (append-nil draft.amx.code)
put_code (InstructionLine at it) draft = refl
put_code DataLine draft = sym (append-nil draft.amx.code)
put_code (CellsLine at cells) draft = sym (append-nil draft.amx.code)
put_code EndLine draft = sym (append-nil draft.amx.code)

pub puts_code : (lines : List Line) (draft : Draft)
    → (puts lines draft).amx.code ≡ draft.amx.code ++ code_in lines
puts_code lines draft = gathers (λ (d : Draft). d.amx.code) code_cells put_code lines draft

put_store : (line : Line) (draft : Draft)
    → (put line draft).amx.store ≡ draft.amx.store ++ store_cells line
put_store (HeaderLine it) draft = sym (append-nil draft.amx.store)
put_store (RecordLine Public it) draft = sym (append-nil draft.amx.store)
put_store (RecordLine Native it) draft = sym (append-nil draft.amx.store)
put_store (RecordLine Library it) draft = sym (append-nil draft.amx.store)
put_store (RecordLine Variable it) draft = sym (append-nil draft.amx.store)
put_store (RecordLine Tag it) draft = sym (append-nil draft.amx.store)
put_store CodeLine draft = sym (append-nil draft.amx.store)
put_store (InstructionLine at it) draft = sym (append-nil draft.amx.store)
put_store DataLine draft = sym (append-nil draft.amx.store)
put_store (CellsLine at cells) draft = refl
put_store EndLine draft = sym (append-nil draft.amx.store)

pub puts_store : (lines : List Line) (draft : Draft)
    → (puts lines draft).amx.store ≡ draft.amx.store ++ store_in lines
puts_store lines draft = gathers (λ (d : Draft). d.amx.store) store_cells put_store lines draft

-- the address with which the line of an instruction begins
abbrev pub start_of : Line → List ℕ
start_of (InstructionLine at it) = at ∷ []
start_of line = []

put_starts : (line : Line) (draft : Draft)
    → (put line draft).starts ≡ draft.starts ++ start_of line
put_starts (HeaderLine it) draft = sym (append-nil draft.starts)
put_starts (RecordLine Public it) draft = sym (append-nil draft.starts)
put_starts (RecordLine Native it) draft = sym (append-nil draft.starts)
put_starts (RecordLine Library it) draft = sym (append-nil draft.starts)
put_starts (RecordLine Variable it) draft = sym (append-nil draft.starts)
put_starts (RecordLine Tag it) draft = sym (append-nil draft.starts)
put_starts CodeLine draft = sym (append-nil draft.starts)
put_starts (InstructionLine at it) draft = refl
put_starts DataLine draft = sym (append-nil draft.starts)
put_starts (CellsLine at cells) draft = sym (append-nil draft.starts)
put_starts EndLine draft = sym (append-nil draft.starts)

pub puts_starts : (lines : List Line) (draft : Draft)
    → (puts lines draft).starts ≡ draft.starts ++ flat_map start_of lines
puts_starts lines draft = gathers (λ (d : Draft). d.starts) start_of put_starts lines draft

-- ---- tables

put_publics : (line : Line) (draft : Draft)
    → (put line draft).amx.publics ≡ draft.amx.publics ++ cons_option (record_in Public line) []
put_publics (HeaderLine it) draft = sym (append-nil draft.amx.publics)
put_publics (RecordLine Public it) draft = refl
put_publics (RecordLine Native it) draft = sym (append-nil draft.amx.publics)
put_publics (RecordLine Library it) draft = sym (append-nil draft.amx.publics)
put_publics (RecordLine Variable it) draft = sym (append-nil draft.amx.publics)
put_publics (RecordLine Tag it) draft = sym (append-nil draft.amx.publics)
put_publics CodeLine draft = sym (append-nil draft.amx.publics)
put_publics (InstructionLine at it) draft = sym (append-nil draft.amx.publics)
put_publics DataLine draft = sym (append-nil draft.amx.publics)
put_publics (CellsLine at cells) draft = sym (append-nil draft.amx.publics)
put_publics EndLine draft = sym (append-nil draft.amx.publics)

pub puts_publics : (lines : List Line) (draft : Draft)
    → (puts lines draft).amx.publics ≡ draft.amx.publics ++ records_in Public lines
puts_publics lines draft =
    picks (λ (d : Draft). d.amx.publics) (record_in Public) put_publics lines draft

put_natives : (line : Line) (draft : Draft)
    → (put line draft).amx.natives ≡ draft.amx.natives ++ cons_option (record_in Native line) []
put_natives (HeaderLine it) draft = sym (append-nil draft.amx.natives)
put_natives (RecordLine Public it) draft = sym (append-nil draft.amx.natives)
put_natives (RecordLine Native it) draft = refl
put_natives (RecordLine Library it) draft = sym (append-nil draft.amx.natives)
put_natives (RecordLine Variable it) draft = sym (append-nil draft.amx.natives)
put_natives (RecordLine Tag it) draft = sym (append-nil draft.amx.natives)
put_natives CodeLine draft = sym (append-nil draft.amx.natives)
put_natives (InstructionLine at it) draft = sym (append-nil draft.amx.natives)
put_natives DataLine draft = sym (append-nil draft.amx.natives)
put_natives (CellsLine at cells) draft = sym (append-nil draft.amx.natives)
put_natives EndLine draft = sym (append-nil draft.amx.natives)

pub puts_natives : (lines : List Line) (draft : Draft)
    → (puts lines draft).amx.natives ≡ draft.amx.natives ++ records_in Native lines
puts_natives lines draft =
    picks (λ (d : Draft). d.amx.natives) (record_in Native) put_natives lines draft

put_libraries : (line : Line) (draft : Draft)
    → (put line draft).amx.libraries ≡ draft.amx.libraries ++ cons_option (record_in Library line) []
put_libraries (HeaderLine it) draft = sym (append-nil draft.amx.libraries)
put_libraries (RecordLine Public it) draft = sym (append-nil draft.amx.libraries)
put_libraries (RecordLine Native it) draft = sym (append-nil draft.amx.libraries)
put_libraries (RecordLine Library it) draft = refl
put_libraries (RecordLine Variable it) draft = sym (append-nil draft.amx.libraries)
put_libraries (RecordLine Tag it) draft = sym (append-nil draft.amx.libraries)
put_libraries CodeLine draft = sym (append-nil draft.amx.libraries)
put_libraries (InstructionLine at it) draft = sym (append-nil draft.amx.libraries)
put_libraries DataLine draft = sym (append-nil draft.amx.libraries)
put_libraries (CellsLine at cells) draft = sym (append-nil draft.amx.libraries)
put_libraries EndLine draft = sym (append-nil draft.amx.libraries)

pub puts_libraries : (lines : List Line) (draft : Draft)
    → (puts lines draft).amx.libraries ≡ draft.amx.libraries ++ records_in Library lines
puts_libraries lines draft =
    picks (λ (d : Draft). d.amx.libraries) (record_in Library) put_libraries lines draft

put_variables : (line : Line) (draft : Draft)
    → (put line draft).amx.variables ≡ draft.amx.variables ++ cons_option (record_in Variable line) []
put_variables (HeaderLine it) draft = sym (append-nil draft.amx.variables)
put_variables (RecordLine Public it) draft = sym (append-nil draft.amx.variables)
put_variables (RecordLine Native it) draft = sym (append-nil draft.amx.variables)
put_variables (RecordLine Library it) draft = sym (append-nil draft.amx.variables)
put_variables (RecordLine Variable it) draft = refl
put_variables (RecordLine Tag it) draft = sym (append-nil draft.amx.variables)
put_variables CodeLine draft = sym (append-nil draft.amx.variables)
put_variables (InstructionLine at it) draft = sym (append-nil draft.amx.variables)
put_variables DataLine draft = sym (append-nil draft.amx.variables)
put_variables (CellsLine at cells) draft = sym (append-nil draft.amx.variables)
put_variables EndLine draft = sym (append-nil draft.amx.variables)

pub puts_variables : (lines : List Line) (draft : Draft)
    → (puts lines draft).amx.variables ≡ draft.amx.variables ++ records_in Variable lines
puts_variables lines draft =
    picks (λ (d : Draft). d.amx.variables) (record_in Variable) put_variables lines draft

put_tags : (line : Line) (draft : Draft)
    → (put line draft).amx.tags ≡ draft.amx.tags ++ cons_option (record_in Tag line) []
put_tags (HeaderLine it) draft = sym (append-nil draft.amx.tags)
put_tags (RecordLine Public it) draft = sym (append-nil draft.amx.tags)
put_tags (RecordLine Native it) draft = sym (append-nil draft.amx.tags)
put_tags (RecordLine Library it) draft = sym (append-nil draft.amx.tags)
put_tags (RecordLine Variable it) draft = sym (append-nil draft.amx.tags)
put_tags (RecordLine Tag it) draft = refl
put_tags CodeLine draft = sym (append-nil draft.amx.tags)
put_tags (InstructionLine at it) draft = sym (append-nil draft.amx.tags)
put_tags DataLine draft = sym (append-nil draft.amx.tags)
put_tags (CellsLine at cells) draft = sym (append-nil draft.amx.tags)
put_tags EndLine draft = sym (append-nil draft.amx.tags)

pub puts_tags : (lines : List Line) (draft : Draft)
    → (puts lines draft).amx.tags ≡ draft.amx.tags ++ records_in Tag lines
puts_tags lines draft =
    picks (λ (d : Draft). d.amx.tags) (record_in Tag) put_tags lines draft

-- ---- the header

-- no line behind another is a header
abbrev is_other : Line → Bool
is_other (HeaderLine it) = false
is_other line = true

other_follows : (before line : Line) → may_follow (Some before) line ≡ true → is_other line ≡ true
other_follows before (RecordLine kind it) h = refl
other_follows before CodeLine h = refl
other_follows before (InstructionLine at it) h = refl
other_follows before DataLine h = refl
other_follows before (CellsLine at cells) h = refl
other_follows before EndLine h = refl
other_follows (HeaderLine head) (HeaderLine it) h = absurd (let no : ⊥ = cc in no)
other_follows (RecordLine kind one) (HeaderLine it) h = absurd (let no : ⊥ = cc in no)
other_follows CodeLine (HeaderLine it) h = absurd (let no : ⊥ = cc in no)
other_follows (InstructionLine at one) (HeaderLine it) h = absurd (let no : ⊥ = cc in no)
other_follows DataLine (HeaderLine it) h = absurd (let no : ⊥ = cc in no)
other_follows (CellsLine at cells) (HeaderLine it) h = absurd (let no : ⊥ = cc in no)
other_follows EndLine (HeaderLine it) h = absurd (let no : ⊥ = cc in no)

put_header : (line : Line) (draft : Draft) → is_other line ≡ true
    → header_by (put line draft) ≡ header_by draft
put_header (HeaderLine it) draft h = absurd (let no : ⊥ = cc in no)
put_header (RecordLine Public it) draft h = refl
put_header (RecordLine Native it) draft h = refl
put_header (RecordLine Library it) draft h = refl
put_header (RecordLine Variable it) draft h = refl
put_header (RecordLine Tag it) draft h = refl
put_header CodeLine draft h = refl
put_header (InstructionLine at it) draft h = refl
put_header DataLine draft h = refl
put_header (CellsLine at cells) draft h = refl
put_header EndLine draft h = refl

pub puts_header : (before : Line) (lines : List Line) (draft : Draft)
    → are_in_order (Some before) lines ≡ true → header_by (puts lines draft) ≡ header_by draft
puts_header before [] draft h = refl
puts_header before (line ∷ lines) draft h =
    let both = and_parts (may_follow (Some before) line) (are_in_order (Some line) lines) h in
    puts_header line lines (put line draft) both.1
    ∙ put_header line draft (other_follows before line both.0)

-- the header of lines that begin with it
pub header_put : (it : Header) (others : List Line)
    → are_in_order (Some (HeaderLine it)) others ≡ true
    → header_by (puts (HeaderLine it ∷ others) empty_draft) ≡ it
header_put it others h = puts_header (HeaderLine it) others (put (HeaderLine it) empty_draft) h

-- the file of lines that begin with a header
pub amx_put : (it : Header) (others : List Line)
    → are_in_order (Some (HeaderLine it)) others ≡ true
    → (puts (HeaderLine it ∷ others) empty_draft).amx ≡ amx_of it (HeaderLine it ∷ others)
amx_put it others h =
    let draft : Draft = puts (HeaderLine it ∷ others) empty_draft in
    let head = header_put it others h in
    λ i. record {
      flags = (head i).flags;
      version = (head i).version;
      code = puts_code (HeaderLine it ∷ others) empty_draft i;
      store = puts_store (HeaderLine it ∷ others) empty_draft i;
      room = (head i).room;
      entry = (head i).entry;
      publics = puts_publics (HeaderLine it ∷ others) empty_draft i;
      natives = puts_natives (HeaderLine it ∷ others) empty_draft i;
      libraries = puts_libraries (HeaderLine it ∷ others) empty_draft i;
      variables = puts_variables (HeaderLine it ∷ others) empty_draft i;
      tags = puts_tags (HeaderLine it ∷ others) empty_draft i;
    }

-- ---- addresses

-- a draft that stands behind some lines, as far as addresses go
record Behind (draft : Draft) (before : List Line) : Type 0 where
  code : draft.amx.code ≡ code_in before
  store : draft.amx.store ≡ store_in before
  lines : draft.lines ≡ length before

one_behind : {X : Type 0} (f : Line → List X) (before : List Line) (line : Line) (xs : List X)
    → xs ≡ flat_map f before → xs ++ f line ≡ flat_map f (before ++ line ∷ [])
one_behind f before line xs e =
    ap (λ ys. ys ++ f line) e
    ∙ ap (λ ys. flat_map f before ++ ys) (sym (append-nil (f line)))
    ∙ sym (flat_map-append f before (line ∷ []))

behind_more : (draft : Draft) (before : List Line) (line : Line) → Behind draft before
    → Behind (put line draft) (before ++ line ∷ [])
behind_more draft before line h = record {
  code = put_code line draft ∙ one_behind code_cells before line draft.amx.code h.code;
  store = put_store line draft ∙ one_behind store_cells before line draft.amx.store h.store;
  lines =
      omega (
        arith,
        put_lines line draft,
        h.lines,
        length-append before (line ∷ []),
      );
}

noted_as : (o : Option ℕ) (stands : Bool) (lines : ℕ)
    → address_by (noted o stands lines)
    ≡ option_or (address_by o) (if stands then None else Some (asm.Address (lines + 1)))
noted_as None true lines = refl
noted_as None false lines = refl
noted_as (Some before) stands lines = refl

kept : (o : Option ℕ) → address_by o ≡ option_or (address_by o) None
kept None = refl
kept (Some before) = refl

-- what one line notes
put_address : (line : Line) (draft : Draft) (before : List Line) → Behind draft before
    → address_by (put line draft).misplaced
    ≡ option_or (address_by draft.misplaced)
    (if is_placed before line then None else Some (asm.Address (length before + 1)))
put_address (HeaderLine it) draft before h = kept draft.misplaced
put_address (RecordLine Public it) draft before h = kept draft.misplaced
put_address (RecordLine Native it) draft before h = kept draft.misplaced
put_address (RecordLine Library it) draft before h = kept draft.misplaced
put_address (RecordLine Variable it) draft before h = kept draft.misplaced
put_address (RecordLine Tag it) draft before h = kept draft.misplaced
put_address CodeLine draft before h = kept draft.misplaced
put_address (InstructionLine at it) draft before h =
    noted_as draft.misplaced (at == 4 * length draft.amx.code) draft.lines
    ∙ ap (λ (cells : List ℤ). option_or (address_by draft.misplaced)
    (if at == 4 * length cells then None else Some (asm.Address (draft.lines + 1)))) h.code
    ∙ ap (λ (n : ℕ). option_or (address_by draft.misplaced)
    (if at == 4 * length (code_in before) then None else Some (asm.Address (n + 1)))) h.lines
put_address DataLine draft before h = kept draft.misplaced
put_address (CellsLine at cells) draft before h =
    noted_as draft.misplaced (at == 4 * length draft.amx.store) draft.lines
    ∙ ap (λ (xs : List ℤ). option_or (address_by draft.misplaced)
    (if at == 4 * length xs then None else Some (asm.Address (draft.lines + 1)))) h.store
    ∙ ap (λ (n : ℕ). option_or (address_by draft.misplaced)
    (if at == 4 * length (store_in before) then None else Some (asm.Address (n + 1)))) h.lines
put_address EndLine draft before h = kept draft.misplaced

or_either : (o : Option AsmFault) (t : Bool) (n : ℕ) (rest : Option AsmFault)
    → option_or (option_or o (if t then None else Some (asm.Address n))) rest
    ≡ option_or o (if t then rest else Some (asm.Address n))
or_either None true n rest = refl
or_either None false n rest = refl
or_either (Some x) t n rest = refl

addresses : (lines before : List Line) (draft : Draft) → Behind draft before
    → address_by (puts lines draft).misplaced
    ≡ option_or (address_by draft.misplaced) (address_fault before lines)
addresses [] before draft h = kept draft.misplaced
addresses (line ∷ lines) before draft h =
    addresses lines (before ++ line ∷ []) (put line draft) (behind_more draft before line h)
    ∙ ap (λ o. option_or o (address_fault (before ++ line ∷ []) lines))
    (put_address line draft before h)
    ∙ or_either (address_by draft.misplaced) (is_placed before line) (length before + 1)
    (address_fault (before ++ line ∷ []) lines)

-- the first line with another address
pub puts_address : (lines : List Line)
    → address_by (puts lines empty_draft).misplaced ≡ address_fault [] lines
puts_address lines =
    addresses lines [] empty_draft (record { code = refl; store = refl; lines = refl })
