-- Which line a text begins with, kind by kind.
use Rattle.std.proofs.Common.{◌≡◌, ◌∙◌, ◌++◌, ℕ, List, [], ◌∷◌, Bool, true, false, cond, Option}
use Rattle.std.proofs.Common.{None}
use Rattle.std.proofs.Common.{Some, refl, sym, ap, append_assoc, codes, nat_le, ◌⊎◌, inl, inr}
use Rattle.std.specs.Option.{option_or}
use Rattle.std.specs.Prelude.{option_and_then, if◌then◌else◌}
use Rattle.amx_ops.specs.declared.amx.Record.{Record}
use Rattle.amx_ops.specs.Written.{Written}
use Rattle.amx_text.specs.declared.kind.Kind.{Kind}
use Rattle.amx_text.specs.declared.kind.Kind.TheVariants.{Public, Native, Library, Variable, Tag}
use Rattle.amx_text.specs.declared.last.Last.TheVariants as last
use Rattle.amx_text.specs.Lines.{Header, word_of}
use Rattle.amx_text.specs.Forms.{Line, HeaderLine, RecordLine, CodeLine, InstructionLine, DataLine}
use Rattle.amx_text.specs.Forms.{CellsLine, EndLine, line_text, place_of, RecordFits}
use Rattle.amx_text.specs.Readers.{after_word, header_at, kind_at, any_kind_at, kind_by}
use Rattle.amx_text.specs.Readers.{record_text}
use Rattle.amx_text.specs.Drafts.{Begins, follows, is_header, is_record}
use Rattle.amx_text.specs.Drafts.{is_instruction, is_row}
use Rattle.amx_text.proofs.ReaderLaws.{same_pair, word_is, word_found}
use Rattle.amx_text.proofs.LineReads.{header_found, header_is, and_then_some, NoRecord}
use Rattle.amx_text.proofs.CodeReads.{IsInstruction, NoInstruction, NoRow}

-- no line of such a kind stands there
abbrev pub Nothing : (Line → Bool) → List ℕ → Type 0
Nothing may text = (line : Line) (rest : List ℕ) → Begins may text rest line → ⊥

-- ---- the header

pub no_header : (text : List ℕ) → header_at text ≡ None → Nothing is_header text
no_header text e (HeaderLine it) rest h =
    let a : header_at text ≡ Some (it, rest) = ap header_at h.is ∙ header_found it rest h.fits in
    let no : ⊥ = cc in no
no_header text e (RecordLine kind it) rest h = absurd (let no : false ≡ true = h.follows in cc)
no_header text e CodeLine rest h = absurd (let no : false ≡ true = h.follows in cc)
no_header text e (InstructionLine at it) rest h = absurd (let no : false ≡ true = h.follows in cc)
no_header text e DataLine rest h = absurd (let no : false ≡ true = h.follows in cc)
no_header text e (CellsLine at cells) rest h = absurd (let no : false ≡ true = h.follows in cc)
no_header text e EndLine rest h = absurd (let no : false ≡ true = h.follows in cc)

pub a_header : (text rest : List ℕ) (it : Header) → header_at text ≡ Some (it, rest)
    → Begins is_header text rest (HeaderLine it)
a_header text rest it e =
    let h = header_is it text rest e in
    record { fits = h.fits; follows = refl; is = h.is }

-- ---- lines of one word

-- a line of one word, or a line of another kind
pub widened : (may other : Line → Bool) (mark : Line) (text : List ℕ)
    → ((line : Line) → may line ≡ true → (other line ≡ true) ⊎ (line ≡ mark))
    → after_word (line_text mark) text ≡ None → Nothing other text → Nothing may text
widened may other mark text split none h line rest b = by (split line b.follows)
  where
    by : (other line ≡ true) ⊎ (line ≡ mark) → ⊥
    by (inl k) = h line rest (record { fits = b.fits; follows = k; is = b.is })
    by (inr same) =
        let is : text ≡ line_text mark ++ rest = b.is ∙ ap (λ l. line_text l ++ rest) same in
        let found : after_word (line_text mark) text ≡ Some rest =
        ap (after_word (line_text mark)) is ∙ word_found (line_text mark) rest in
        let no : ⊥ = cc in no

pub nothing_less : (may other : Line → Bool) (text rest : List ℕ) (line : Line)
    → other line ≡ true → Begins may text rest line → Begins other text rest line
nothing_less may other text rest line k b = record { fits = b.fits; follows = k; is = b.is }

tables_split : (from : Kind) (line : Line) → follows (last.Tables from) line ≡ true
    → (is_record from line ≡ true) ⊎ (line ≡ CodeLine)
tables_split from (HeaderLine it) h = absurd (let no : false ≡ true = h in cc)
tables_split from (RecordLine kind it) h = inl h
tables_split from CodeLine h = inr refl
tables_split from (InstructionLine at it) h = absurd (let no : false ≡ true = h in cc)
tables_split from DataLine h = absurd (let no : false ≡ true = h in cc)
tables_split from (CellsLine at cells) h = absurd (let no : false ≡ true = h in cc)
tables_split from EndLine h = absurd (let no : false ≡ true = h in cc)

code_split : (line : Line) → follows last.Code line ≡ true
    → (is_instruction line ≡ true) ⊎ (line ≡ DataLine)
code_split (HeaderLine it) h = absurd (let no : false ≡ true = h in cc)
code_split (RecordLine kind it) h = absurd (let no : false ≡ true = h in cc)
code_split CodeLine h = absurd (let no : false ≡ true = h in cc)
code_split (InstructionLine at it) h = inl refl
code_split DataLine h = inr refl
code_split (CellsLine at cells) h = absurd (let no : false ≡ true = h in cc)
code_split EndLine h = absurd (let no : false ≡ true = h in cc)

data_split : (line : Line) → follows last.Data line ≡ true
    → (is_row line ≡ true) ⊎ (line ≡ EndLine)
data_split (HeaderLine it) h = absurd (let no : false ≡ true = h in cc)
data_split (RecordLine kind it) h = absurd (let no : false ≡ true = h in cc)
data_split CodeLine h = absurd (let no : false ≡ true = h in cc)
data_split (InstructionLine at it) h = absurd (let no : false ≡ true = h in cc)
data_split DataLine h = absurd (let no : false ≡ true = h in cc)
data_split (CellsLine at cells) h = inl refl
data_split EndLine h = inr refl

pub end_alone : (line : Line) → follows last.ShortRow line ≡ true → line ≡ EndLine
end_alone (HeaderLine it) h = absurd (let no : false ≡ true = h in cc)
end_alone (RecordLine kind it) h = absurd (let no : false ≡ true = h in cc)
end_alone CodeLine h = absurd (let no : false ≡ true = h in cc)
end_alone (InstructionLine at it) h = absurd (let no : false ≡ true = h in cc)
end_alone DataLine h = absurd (let no : false ≡ true = h in cc)
end_alone (CellsLine at cells) h = absurd (let no : false ≡ true = h in cc)
end_alone EndLine h = refl

pub no_end : (text : List ℕ) → after_word (codes "end\n") text ≡ None
    → Nothing (follows last.ShortRow) text
no_end text e =
    widened (follows last.ShortRow) (λ line. false) EndLine text
    (λ line h. inr (end_alone line h)) e
    (λ line rest b. let no : false ≡ true = b.follows in cc)

-- behind the tests of a mark
pub tables_none : (from : Kind) (text : List ℕ) → after_word (codes "code\n") text ≡ None
    → Nothing (is_record from) text → Nothing (follows (last.Tables from)) text
tables_none from text e h =
    widened (follows (last.Tables from)) (is_record from) CodeLine text (tables_split from) e h

pub code_none : (text : List ℕ) → after_word (codes "data\n") text ≡ None
    → Nothing is_instruction text → Nothing (follows last.Code) text
code_none text e h = widened (follows last.Code) is_instruction DataLine text code_split e h

pub data_none : (text : List ℕ) → Nothing (follows last.ShortRow) text → Nothing is_row text
    → Nothing (follows last.Data) text
data_none text e h line rest b = by (data_split line b.follows)
  where
    by : (is_row line ≡ true) ⊎ (line ≡ EndLine) → ⊥
    by (inl k) = h line rest (record { fits = b.fits; follows = k; is = b.is })
    by (inr same) =
        e line rest (record {
          fits = b.fits;
          follows = ap (follows last.ShortRow) same;
          is = b.is;
        })

-- ---- records

pub kind_found : (kind : Kind) (rest : List ℕ)
    → any_kind_at (word_of kind ++ (32 ∷ rest)) ≡ Some (kind, rest)
kind_found Public rest = refl
kind_found Native rest = refl
kind_found Library rest = refl
kind_found Variable rest = refl
kind_found Tag rest = refl

-- a table's word stands there
pub record IsKind (kind : Kind) (text rest : List ℕ) : Type 0 where
  pub is : text ≡ word_of kind ++ (32 ∷ rest)

kind_one : (kind : Kind) (word text : List ℕ) (it : Kind) (rest : List ℕ)
    → word ≡ word_of kind ++ (32 ∷ []) → kind_by kind (after_word word text) ≡ Some (it, rest)
    → IsKind it text rest
kind_one kind word text it rest w e = by (after_word word text) refl e
  where
    by : (o : Option (List ℕ)) → after_word word text ≡ o → kind_by kind o ≡ Some (it, rest)
        → IsKind it text rest
    by None h k = absurd (let no : ⊥ = cc in no)
    by (Some behind) h k =
        let pair : (kind ≡ it) × (behind ≡ rest) = same_pair k in
        let same = pair.0 in
        let others = pair.1 in
        record {
          is =
              word_is word text behind h ∙ ap (λ a. a ++ behind) w
              ∙ append_assoc (word_of kind) (32 ∷ []) behind
              ∙ ap (λ k. word_of k ++ (32 ∷ behind)) same
              ∙ ap (λ b. word_of it ++ (32 ∷ b)) others;
        }

or_some : {X : Type 0} (a b : Option X) (x : X) → option_or a b ≡ Some x
    → (a ≡ Some x) ⊎ (b ≡ Some x)
or_some None b x e = inr e
or_some (Some y) b x e = inl e

pub any_kind_is : (text : List ℕ) (it : Kind) (rest : List ℕ) → any_kind_at text ≡ Some (it, rest)
    → IsKind it text rest
any_kind_is text it rest e =
    elim (or_some (kind_by Public (after_word (codes "public ") text)) _ (it, rest) e)
    as (λ _. IsKind it text rest) [
      | inl a ↦ kind_one Public (codes "public ") text it rest refl a
      | inr b ↦ elim (or_some (kind_by Native (after_word (codes "native ") text)) _ (it, rest) b)
          as (λ _. IsKind it text rest) [
            | inl c ↦ kind_one Native (codes "native ") text it rest refl c
            | inr d ↦ elim (or_some (kind_by Library (after_word (codes "library ") text)) _
                (it, rest) d) as (λ _. IsKind it text rest) [
                  | inl f ↦ kind_one Library (codes "library ") text it rest refl f
                  | inr g ↦ elim (or_some (kind_by Variable (after_word (codes "variable ") text))
                      (kind_by Tag (after_word (codes "tag ") text)) (it, rest) g)
                      as (λ _. IsKind it text rest) [
                        | inl h ↦ kind_one Variable (codes "variable ") text it rest refl h
                        | inr i ↦ kind_one Tag (codes "tag ") text it rest refl i
                      ]
                ]
          ]
    ]

-- a record's line
record_shape : (kind : Kind) (it : Record) (rest : List ℕ)
    → line_text (RecordLine kind it) ++ rest ≡ word_of kind ++ (32 ∷ (record_text it ++ rest))
record_shape kind it rest = append_assoc (word_of kind) (32 ∷ record_text it) rest

-- the table and the record that stand there are these
record Placed (from kind : Kind) (it : Record) (text rest : List ℕ) : Type 0 where
  later : nat_le (place_of from) (place_of kind) ≡ true
  fits : RecordFits it
  found : any_kind_at text ≡ Some (kind, record_text it ++ rest)

a_place : (from : Kind) (text rest : List ℕ) (line : Line) → Begins (is_record from) text rest line
    → (kind : Kind) × ((it : Record) × Placed from kind it text rest)
a_place from text rest (RecordLine kind it) h = (
  kind,
  (
    it,
    record {
      later = h.follows;
      fits = h.fits;
      found =
          ap any_kind_at (h.is ∙ record_shape kind it rest) ∙ kind_found kind (record_text it ++ rest);
    },
  ),
)
a_place from text rest (HeaderLine it) h = absurd (let no : false ≡ true = h.follows in cc)
a_place from text rest CodeLine h = absurd (let no : false ≡ true = h.follows in cc)
a_place from text rest (InstructionLine at it) h = absurd (let no : false ≡ true = h.follows in cc)
a_place from text rest DataLine h = absurd (let no : false ≡ true = h.follows in cc)
a_place from text rest (CellsLine at cells) h = absurd (let no : false ≡ true = h.follows in cc)
a_place from text rest EndLine h = absurd (let no : false ≡ true = h.follows in cc)

later_kind : (from kind : Kind) (t : Bool) (rest : List ℕ) → t ≡ true
    → cond {A = Option (Kind × List ℕ)} t (Some (kind, rest)) None ≡ Some (kind, rest)
later_kind from kind t rest h = rw h refl

kind_read : (from kind : Kind) (it : Record) (text rest : List ℕ) → Placed from kind it text rest
    → kind_at from text ≡ Some (kind, record_text it ++ rest)
kind_read from kind it text rest h =
    ap (option_and_then (λ (one : Kind × List ℕ).
    if nat_le (place_of from) (place_of one.0) then Some one else None)) h.found
    ∙ later_kind from kind (nat_le (place_of from) (place_of kind)) (record_text it ++ rest) h.later

pub no_kind : (from : Kind) (text : List ℕ) → kind_at from text ≡ None
    → Nothing (is_record from) text
no_kind from text e line rest h =
    let p = a_place from text rest line h in
    let a = kind_read from p.0 p.1.0 text rest p.1.1 in
    let no : ⊥ = cc in no

pub no_record : (from kind : Kind) (text behind : List ℕ) → kind_at from text ≡ Some (kind, behind)
    → NoRecord behind → Nothing (is_record from) text
no_record from kind text behind e none line rest h =
    let p = a_place from text rest line h in
    let pair : (kind ≡ p.0) × (behind ≡ record_text p.1.0 ++ rest) =
    same_pair (sym e ∙ kind_read from p.0 p.1.0 text rest p.1.1) in
    none p.1.0 rest p.1.1.fits pair.1

later_by : (t : Bool) (one : Kind × List ℕ) (kind : Kind) (rest : List ℕ)
    → cond {A = Option (Kind × List ℕ)} t (Some one) None ≡ Some (kind, rest)
    → (t ≡ true) × (one ≡ (kind, rest))
later_by true one kind rest e = (refl, (let same : one ≡ (kind, rest) = cc in same))
later_by false one kind rest e = absurd (let no : ⊥ = cc in no)

pub a_record_line : (from kind : Kind) (it : Record) (text behind rest : List ℕ)
    → kind_at from text ≡ Some (kind, behind) → RecordFits it → behind ≡ record_text it ++ rest
    → Begins (is_record from) text rest (RecordLine kind it)
a_record_line from kind it text behind rest e fits is =
    let a =
    and_then_some (λ (one : Kind × List ℕ).
    if nat_le (place_of from) (place_of one.0) then Some one else None) (any_kind_at text)
    (kind, behind) e in
    let b = later_by (nat_le (place_of from) (place_of a.0.0)) a.0 kind behind a.1.1 in
    let found : any_kind_at text ≡ Some (kind, behind) = a.1.0 ∙ ap Some b.1 in
    let kind_is : a.0.0 ≡ kind = ap (λ (p : Kind × List ℕ). p.0) b.1 in
    record {
      fits = fits;
      follows = ap (λ k. nat_le (place_of from) (place_of k)) (sym kind_is) ∙ b.0;
      is =
          (any_kind_is text kind behind found).is
          ∙ ap (λ t. word_of kind ++ (32 ∷ t)) is ∙ sym (record_shape kind it rest);
    }

-- ---- instructions and rows

pub no_instruction : (text : List ℕ) → NoInstruction text → Nothing is_instruction text
no_instruction text none (InstructionLine at it) rest h =
    none at it rest (record { fits = h.fits; is = h.is })
no_instruction text none (HeaderLine it) rest h = absurd (let no : false ≡ true = h.follows in cc)
no_instruction text none (RecordLine kind it) rest h =
    absurd (let no : false ≡ true = h.follows in cc)
no_instruction text none CodeLine rest h = absurd (let no : false ≡ true = h.follows in cc)
no_instruction text none DataLine rest h = absurd (let no : false ≡ true = h.follows in cc)
no_instruction text none (CellsLine at cells) rest h =
    absurd (let no : false ≡ true = h.follows in cc)
no_instruction text none EndLine rest h = absurd (let no : false ≡ true = h.follows in cc)

pub an_instruction_line : (at : ℕ) (it : Written) (text rest : List ℕ)
    → IsInstruction at it text rest → Begins is_instruction text rest (InstructionLine at it)
an_instruction_line at it text rest h = record { fits = h.fits; follows = refl; is = h.is }

pub no_row : (text : List ℕ) → NoRow text → Nothing is_row text
no_row text none (CellsLine at cells) rest h =
    none at cells rest (record { fits = h.fits; is = h.is })
no_row text none (HeaderLine it) rest h = absurd (let no : false ≡ true = h.follows in cc)
no_row text none (RecordLine kind it) rest h = absurd (let no : false ≡ true = h.follows in cc)
no_row text none CodeLine rest h = absurd (let no : false ≡ true = h.follows in cc)
no_row text none (InstructionLine at it) rest h = absurd (let no : false ≡ true = h.follows in cc)
no_row text none DataLine rest h = absurd (let no : false ≡ true = h.follows in cc)
no_row text none EndLine rest h = absurd (let no : false ≡ true = h.follows in cc)
