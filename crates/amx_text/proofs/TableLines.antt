-- Lines behind a header, in their order: the tables one after another, and then the code.
use Rattle.std.proofs.Common.{◌≡◌, ◌≤◌, ℕ, zero, suc, ℤ, pos, Bool, true, false, ◌==◌, List, []}
use Rattle.std.proofs.Common.{◌∷◌, ◌++◌, Some, All, refl, sym, ap, subst, ◌∙◌, arith, le-leb}
use Rattle.std.proofs.Common.{leb-true, eqb-true}
use Rattle.std.proofs.lemmas.Bool.{and_parts, and_from, true≢false, eqb-false}
use Rattle.amx_ops.specs.declared.amx.Record.{Record}
use Rattle.amx_ops.specs.Written.{Written, IsWritten}
use Rattle.amx_text.specs.declared.kind.Kind.{Kind}
use Rattle.amx_text.specs.declared.kind.Kind.TheVariants.{Public, Native, Library, Variable, Tag}
use Rattle.amx_text.specs.Lines.{Header}
use Rattle.amx_text.specs.Forms.{Line, HeaderLine, RecordLine, CodeLine, EndLine, place_of}
use Rattle.amx_text.specs.Forms.{may_follow}
use Rattle.amx_text.proofs.LinesOf.{lines_in, lines_of_cells}
use Rattle.amx_text.proofs.WholeLaws.{Tail, first_of, code_back}

-- ---- one table

-- the table with a place
abbrev kind_at : ℕ → Kind
kind_at zero = Public
kind_at (suc zero) = Native
kind_at (suc (suc zero)) = Library
kind_at (suc (suc (suc zero))) = Variable
kind_at place = Tag

kind_is : (kind : Kind) → kind_at (place_of kind) ≡ kind
kind_is Public = refl
kind_is Native = refl
kind_is Library = refl
kind_is Variable = refl
kind_is Tag = refl

same_kind : (a b : Kind) → place_of a ≡ place_of b → a ≡ b
same_kind a b e = sym (kind_is a) ∙ ap kind_at e ∙ kind_is b

-- some record, where it doesn't matter which
abbrev any_record : Record
any_record = record { address = pos 0; name = [] }

-- lines that may stand behind a record of a table
abbrev Behind : Kind → List Line → Type 0
Behind kind lines = Tail (RecordLine kind any_record) 0 0 lines

-- a record of the table stands first
abbrev begins_with : Kind → List Line → Bool
begins_with kind [] = false
begins_with kind (RecordLine other it ∷ lines) = place_of other == place_of kind
begins_with kind (line ∷ lines) = false

record TableBack (kind : Kind) (lines : List Line) : Type 0 where
  records : List Record
  rest : List Line
  is : lines ≡ lines_in kind records ++ rest
  others : begins_with kind rest ≡ false
  behind : Behind kind rest

none_here : (kind : Kind) (lines : List Line) → begins_with kind lines ≡ false → Behind kind lines
    → TableBack kind lines
none_here kind lines h t =
    record { records = []; rest = lines; is = refl; others = h; behind = t }

one_here : (kind other : Kind) (it : Record) (lines : List Line) → place_of other ≡ place_of kind
    → TableBack kind lines → TableBack kind (RecordLine other it ∷ lines)
one_here kind other it lines e back = record {
  records = it ∷ back.records;
  rest = back.rest;
  is =
      ap (λ k. RecordLine k it ∷ lines) (same_kind other kind e)
      ∙ ap (λ others. RecordLine kind it ∷ others) back.is;
  others = back.others;
  behind = back.behind;
}

-- the record doesn't matter
of_any : (kind other : Kind) (it : Record) (lines : List Line) → place_of other ≡ place_of kind
    → Tail (RecordLine other it) 0 0 lines → Behind kind lines
of_any kind other it lines e t = subst (λ k. Behind k lines) (same_kind other kind e) (by lines t)
  where
    by : (lines : List Line) → Tail (RecordLine other it) 0 0 lines → Behind other lines
    by [] t = absurd (let no : Some (RecordLine other it) ≡ Some EndLine = t.ends in cc)
    by (line ∷ lines) t = record {
      order =
          and_from (may_follow (Some (RecordLine other any_record)) line) _
          (same_follows line (and_parts (may_follow (Some (RecordLine other it)) line) _ t.order).0)
          (and_parts (may_follow (Some (RecordLine other it)) line) _ t.order).1;
      ends = t.ends;
      fits = t.fits;
      placed = t.placed;
    } where
      same_follows : (line : Line) → may_follow (Some (RecordLine other it)) line ≡ true
          → may_follow (Some (RecordLine other any_record)) line ≡ true
      same_follows (RecordLine kind next) h = h
      same_follows CodeLine h = refl
      same_follows line h = absurd (true≢false (sym h))

table_by : (kind other : Kind) (it : Record) (lines : List Line) (b : Bool)
    → (place_of other == place_of kind) ≡ b → Behind kind (RecordLine other it ∷ lines)
    → (Behind kind lines → TableBack kind lines) → TableBack kind (RecordLine other it ∷ lines)
table_by kind other it lines true e t f =
    let same = eqb-true (place_of other) (place_of kind) e in
    let first = first_of (RecordLine kind any_record) 0 0 (RecordLine other it) lines t in
    one_here kind other it lines same (f (of_any kind other it lines same first.others))
table_by kind other it lines false e t f = none_here kind (RecordLine other it ∷ lines) e t

table_back : (kind : Kind) (lines : List Line) → Behind kind lines → TableBack kind lines
table_back kind [] t = none_here kind [] refl t
table_back kind (RecordLine other it ∷ lines) t =
    table_by kind other it lines (place_of other == place_of kind) refl t (table_back kind lines)
table_back kind (line ∷ lines) t = none_here kind (line ∷ lines) refl t

-- ---- the next table

follows_next : (kind next : Kind) (line : Line) (lines : List Line)
    → place_of next ≡ suc (place_of kind)
    → begins_with kind (line ∷ lines) ≡ false
    → may_follow (Some (RecordLine kind any_record)) line ≡ true
    → may_follow (Some (RecordLine next any_record)) line ≡ true
follows_next kind next (RecordLine other it) lines e h f =
    let low = leb-true (place_of kind) (place_of other) f in
    let differs = eqb-false (place_of other) (place_of kind) h in
    le-leb (place_of next) (place_of other)
    (above (place_of kind) (place_of next) (place_of other) e low differs)
  where
    above : (a b c : ℕ) → b ≡ suc a → a ≤ c → (c ≡ a → ⊥) → b ≤ c
    above a b c e low differs = omega arith
follows_next kind next CodeLine lines e h f = refl
follows_next kind next line lines e h f = absurd (true≢false (sym f))

next_table : (kind next : Kind) (lines : List Line) → place_of next ≡ suc (place_of kind)
    → begins_with kind lines ≡ false → Behind kind lines → Behind next lines
next_table kind next [] e h t =
    absurd (let no : Some (RecordLine kind any_record) ≡ Some EndLine = t.ends in cc)
next_table kind next (line ∷ lines) e h t =
    let both = and_parts (may_follow (Some (RecordLine kind any_record)) line) _ t.order in
    record {
      order =
          and_from (may_follow (Some (RecordLine next any_record)) line) _
          (follows_next kind next line lines e h both.0) both.1;
      ends = t.ends;
      fits = t.fits;
      placed = t.placed;
    }

-- ---- behind the header

-- behind the last table
record CellsBack (lines : List Line) : Type 0 where
  its : List Written
  written : All IsWritten its
  store : List ℤ
  is : lines ≡ lines_of_cells its store

cells_back : (lines : List Line) → begins_with Tag lines ≡ false → Behind Tag lines
    → CellsBack lines
cells_back [] h t =
    absurd (let no : Some (RecordLine Tag any_record) ≡ Some EndLine = t.ends in cc)
cells_back (CodeLine ∷ lines) h t =
    let first = first_of (RecordLine Tag any_record) 0 0 CodeLine lines t in
    let back = code_back 0 CodeLine lines refl first.others in
    record {
      its = back.its;
      written = back.written;
      store = back.store;
      is = ap (λ list. CodeLine ∷ list) back.is;
    }
cells_back (RecordLine Tag it ∷ lines) h t = absurd (true≢false h)
cells_back (RecordLine Public it ∷ lines) h t =
    absurd (true≢false (sym (first_of (RecordLine Tag any_record) 0 0 _ lines t).follows))
cells_back (RecordLine Native it ∷ lines) h t =
    absurd (true≢false (sym (first_of (RecordLine Tag any_record) 0 0 _ lines t).follows))
cells_back (RecordLine Library it ∷ lines) h t =
    absurd (true≢false (sym (first_of (RecordLine Tag any_record) 0 0 _ lines t).follows))
cells_back (RecordLine Variable it ∷ lines) h t =
    absurd (true≢false (sym (first_of (RecordLine Tag any_record) 0 0 _ lines t).follows))
cells_back (line ∷ lines) h t =
    absurd (true≢false (sym (first_of (RecordLine Tag any_record) 0 0 line lines t).follows))

-- the parts of the lines behind a header
pub record Parts (lines : List Line) : Type 0 where
  pub publics : List Record
  pub natives : List Record
  pub libraries : List Record
  pub variables : List Record
  pub tags : List Record
  pub its : List Written
  pub written : All IsWritten its
  pub store : List ℤ
  pub is : lines
      ≡ lines_in Public publics ++ (lines_in Native natives ++ (lines_in Library libraries
      ++ (lines_in Variable variables ++ (lines_in Tag tags ++ lines_of_cells its store))))

parts_by : (lines : List Line) → Behind Public lines → Parts lines
parts_by lines t =
    let a = table_back Public lines t in
    let b = table_back Native a.rest (next_table Public Native a.rest refl a.others a.behind) in
    let c = table_back Library b.rest (next_table Native Library b.rest refl b.others b.behind) in
    let d =
    table_back Variable c.rest (next_table Library Variable c.rest refl c.others c.behind) in
    let e = table_back Tag d.rest (next_table Variable Tag d.rest refl d.others d.behind) in
    let f = cells_back e.rest e.others e.behind in
    record {
      publics = a.records;
      natives = b.records;
      libraries = c.records;
      variables = d.records;
      tags = e.records;
      its = f.its;
      written = f.written;
      store = f.store;
      is =
          a.is ∙ ap (λ rest. lines_in Public a.records ++ rest) (b.is
          ∙ ap (λ rest. lines_in Native b.records ++ rest) (c.is
          ∙ ap (λ rest. lines_in Library c.records ++ rest) (d.is
          ∙ ap (λ rest. lines_in Variable d.records ++ rest) (e.is
          ∙ ap (λ rest. lines_in Tag e.records ++ rest) f.is))));
    }

header_follows : (it : Header) (line : Line) → may_follow (Some (HeaderLine it)) line ≡ true
    → may_follow (Some (RecordLine Public any_record)) line ≡ true
header_follows it (RecordLine kind next) h = le-leb 0 (place_of kind) (omega arith)
header_follows it CodeLine h = refl
header_follows it line h = absurd (true≢false (sym h))

-- lines behind a header have these parts
pub parts_of : (it : Header) (lines : List Line) → Tail (HeaderLine it) 0 0 lines → Parts lines
parts_of it [] t = absurd (let no : Some (HeaderLine it) ≡ Some EndLine = t.ends in cc)
parts_of it (line ∷ lines) t =
    let both = and_parts (may_follow (Some (HeaderLine it)) line) _ t.order in
    parts_by (line ∷ lines) (record {
      order =
          and_from (may_follow (Some (RecordLine Public any_record)) line) _
          (header_follows it line both.0) both.1;
      ends = t.ends;
      fits = t.fits;
      placed = t.placed;
    })
