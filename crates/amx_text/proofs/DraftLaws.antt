-- Lines that are put into a draft one by one.
use Rattle.std.proofs.Common.{◌≡◌, ◌∙◌, ◌+◌, ◌==◌, ◌++◌, ℕ, List, []}
use Rattle.std.proofs.Common.{◌∷◌, Bool, true, false, Option, None, Some, length, refl, sym}
use Rattle.std.proofs.Common.{ap, subst, arith, append_assoc, append-nil, drop}
use Rattle.std.specs.List.{flat_map, last_or}
use Rattle.std.specs.Prelude.{if◌then◌else◌}
use Rattle.std.proofs.lemmas.Bool.{and_parts, and_from}
use Rattle.std.proofs.lemmas.List.Concat.{flat_map-append}
use Rattle.std.proofs.lemmas.List.Elements.{All-nil, All-cons, All-append}
use Rattle.amx_text.specs.declared.draft.Draft.{Draft}
use Rattle.amx_text.specs.declared.kind.Kind.TheVariants.{Public, Native, Library, Variable, Tag}
use Rattle.amx_text.specs.declared.last.Last.TheVariants as last
use Rattle.amx_text.specs.declared.listing.TheConstants.{WIDTH}
use Rattle.amx_text.specs.Forms.{Line, HeaderLine, RecordLine, CodeLine, InstructionLine, DataLine}
use Rattle.amx_text.specs.Forms.{CellsLine, EndLine, line_text, Fits, may_follow}
use Rattle.amx_text.specs.Texts.{are_in_order, last_of, BeginsWith, AreLines, HasLine, BreaksAt}
use Rattle.amx_text.specs.Drafts.{last_as, follows, empty_draft, put, puts, TakesLine}
use Rattle.amx_text.specs.Drafts.{TakesNone, ReadsAll}

-- ---- which line may follow

-- what may follow a row that is whole, or isn't
abbrev follows_row : Bool → Line → Bool
follows_row t (CellsLine at cells) = t
follows_row t EndLine = true
follows_row t line = false

behind_row : (t : Bool) (line : Line)
    → follows (if t then last.Data else last.ShortRow) line ≡ follows_row t line
behind_row true (HeaderLine it) = refl
behind_row false (HeaderLine it) = refl
behind_row true (RecordLine kind it) = refl
behind_row false (RecordLine kind it) = refl
behind_row true CodeLine = refl
behind_row false CodeLine = refl
behind_row true (InstructionLine at it) = refl
behind_row false (InstructionLine at it) = refl
behind_row true DataLine = refl
behind_row false DataLine = refl
behind_row true (CellsLine at cells) = refl
behind_row false (CellsLine at cells) = refl
behind_row true EndLine = refl
behind_row false EndLine = refl

-- a line may follow a draft's last line where it may follow that line
pub follow_same : (before : Option Line) (line : Line)
    → follows (last_as before) line ≡ may_follow before line
follow_same None (HeaderLine it) = refl
follow_same None (RecordLine kind it) = refl
follow_same None CodeLine = refl
follow_same None (InstructionLine at it) = refl
follow_same None DataLine = refl
follow_same None (CellsLine at cells) = refl
follow_same None EndLine = refl
follow_same (Some (HeaderLine head)) (HeaderLine it) = refl
follow_same (Some (HeaderLine head)) (RecordLine Public it) = refl
follow_same (Some (HeaderLine head)) (RecordLine Native it) = refl
follow_same (Some (HeaderLine head)) (RecordLine Library it) = refl
follow_same (Some (HeaderLine head)) (RecordLine Variable it) = refl
follow_same (Some (HeaderLine head)) (RecordLine Tag it) = refl
follow_same (Some (HeaderLine head)) CodeLine = refl
follow_same (Some (HeaderLine head)) (InstructionLine at it) = refl
follow_same (Some (HeaderLine head)) DataLine = refl
follow_same (Some (HeaderLine head)) (CellsLine at cells) = refl
follow_same (Some (HeaderLine head)) EndLine = refl
follow_same (Some (RecordLine other entry)) (HeaderLine it) = refl
follow_same (Some (RecordLine other entry)) (RecordLine kind it) = refl
follow_same (Some (RecordLine other entry)) CodeLine = refl
follow_same (Some (RecordLine other entry)) (InstructionLine at it) = refl
follow_same (Some (RecordLine other entry)) DataLine = refl
follow_same (Some (RecordLine other entry)) (CellsLine at cells) = refl
follow_same (Some (RecordLine other entry)) EndLine = refl
follow_same (Some CodeLine) (HeaderLine it) = refl
follow_same (Some CodeLine) (RecordLine kind it) = refl
follow_same (Some CodeLine) CodeLine = refl
follow_same (Some CodeLine) (InstructionLine at it) = refl
follow_same (Some CodeLine) DataLine = refl
follow_same (Some CodeLine) (CellsLine at cells) = refl
follow_same (Some CodeLine) EndLine = refl
follow_same (Some (InstructionLine place one)) (HeaderLine it) = refl
follow_same (Some (InstructionLine place one)) (RecordLine kind it) = refl
follow_same (Some (InstructionLine place one)) CodeLine = refl
follow_same (Some (InstructionLine place one)) (InstructionLine at it) = refl
follow_same (Some (InstructionLine place one)) DataLine = refl
follow_same (Some (InstructionLine place one)) (CellsLine at cells) = refl
follow_same (Some (InstructionLine place one)) EndLine = refl
follow_same (Some DataLine) (HeaderLine it) = refl
follow_same (Some DataLine) (RecordLine kind it) = refl
follow_same (Some DataLine) CodeLine = refl
follow_same (Some DataLine) (InstructionLine at it) = refl
follow_same (Some DataLine) DataLine = refl
follow_same (Some DataLine) (CellsLine at cells) = refl
follow_same (Some DataLine) EndLine = refl
follow_same (Some (CellsLine place row)) (HeaderLine it) = behind_row (length row == WIDTH) (HeaderLine it)
follow_same (Some (CellsLine place row)) (RecordLine kind it) = behind_row (length row == WIDTH) (RecordLine kind it)
follow_same (Some (CellsLine place row)) CodeLine = behind_row (length row == WIDTH) CodeLine
follow_same (Some (CellsLine place row)) (InstructionLine at it) = behind_row (length row == WIDTH) (InstructionLine at it)
follow_same (Some (CellsLine place row)) DataLine = behind_row (length row == WIDTH) DataLine
follow_same (Some (CellsLine place row)) (CellsLine at cells) = behind_row (length row == WIDTH) (CellsLine at cells)
follow_same (Some (CellsLine place row)) EndLine = behind_row (length row == WIDTH) EndLine
follow_same (Some EndLine) (HeaderLine it) = refl
follow_same (Some EndLine) (RecordLine kind it) = refl
follow_same (Some EndLine) CodeLine = refl
follow_same (Some EndLine) (InstructionLine at it) = refl
follow_same (Some EndLine) DataLine = refl
follow_same (Some EndLine) (CellsLine at cells) = refl
follow_same (Some EndLine) EndLine = refl

-- the end alone leaves the end
row_unended : (t : Bool) → (if t then last.Data else last.ShortRow) ≡ last.End → ⊥
row_unended true e = let no : ⊥ = cc in no
row_unended false e = let no : ⊥ = cc in no

pub end_last : (before : Option Line) → last_as before ≡ last.End → before ≡ Some EndLine
end_last None e = absurd (let no : ⊥ = cc in no)
end_last (Some (HeaderLine it)) e = absurd (let no : ⊥ = cc in no)
end_last (Some (RecordLine kind it)) e = absurd (let no : ⊥ = cc in no)
end_last (Some CodeLine) e = absurd (let no : ⊥ = cc in no)
end_last (Some (InstructionLine at it)) e = absurd (let no : ⊥ = cc in no)
end_last (Some DataLine) e = absurd (let no : ⊥ = cc in no)
end_last (Some (CellsLine at cells)) e = absurd (row_unended (length cells == WIDTH) e)
end_last (Some EndLine) e = refl

-- ---- one line more

pub puts_more : (lines : List Line) (line : Line) (draft : Draft)
    → puts (lines ++ line ∷ []) draft ≡ put line (puts lines draft)
puts_more [] line draft = refl
puts_more (first ∷ lines) line draft = puts_more lines line (put first draft)

put_last : (line : Line) (draft : Draft) → (put line draft).last ≡ last_as (Some line)
put_last (HeaderLine it) draft = refl
put_last (RecordLine kind it) draft = refl
put_last CodeLine draft = refl
put_last (InstructionLine at it) draft = refl
put_last DataLine draft = refl
put_last (CellsLine at cells) draft = refl
put_last EndLine draft = refl

pub puts_last : (lines : List Line) (draft : Draft) (before : Option Line)
    → draft.last ≡ last_as before → (puts lines draft).last ≡ last_as (last_or before lines)
puts_last [] draft before h = h
puts_last (line ∷ lines) draft before h =
    puts_last lines (put line draft) (Some line) (put_last line draft)

pub put_lines : (line : Line) (draft : Draft) → (put line draft).lines ≡ draft.lines + 1
put_lines (HeaderLine it) draft = refl
put_lines (RecordLine Public it) draft = refl
put_lines (RecordLine Native it) draft = refl
put_lines (RecordLine Library it) draft = refl
put_lines (RecordLine Variable it) draft = refl
put_lines (RecordLine Tag it) draft = refl
put_lines CodeLine draft = refl
put_lines (InstructionLine at it) draft = refl
put_lines DataLine draft = refl
put_lines (CellsLine at cells) draft = refl
put_lines EndLine draft = refl

pub puts_lines : (lines : List Line) (draft : Draft)
    → (puts lines draft).lines ≡ draft.lines + length lines
puts_lines [] draft = omega arith
puts_lines (line ∷ lines) draft =
    omega (arith, puts_lines lines (put line draft), put_lines line draft)

order_more : (before : Option Line) (lines : List Line) (line : Line)
    → are_in_order before lines ≡ true → may_follow (last_or before lines) line ≡ true
    → are_in_order before (lines ++ line ∷ []) ≡ true
order_more before [] line h e = and_from (may_follow before line) true e refl
order_more before (first ∷ lines) line h e =
    let both = and_parts (may_follow before first) (are_in_order (Some first) lines) h in
    and_from (may_follow before first) (are_in_order (Some first) (lines ++ line ∷ [])) both.0
    (order_more (Some first) lines line both.1 e)

-- ---- a text, line by line

-- what was read of a text
pub record Onward (text : List ℕ) (draft : Draft) (rest : List ℕ) : Type 0 where
  pub lines : List Line
  pub begins : BeginsWith text lines rest
  pub is : draft ≡ puts lines empty_draft

pub onward_none : (text : List ℕ) (draft : Draft) → draft ≡ empty_draft → Onward text draft text
onward_none text draft e = record {
  lines = [];
  begins = record { fit = All-nil Fits; order = refl; is = refl };
  is = e;
}

-- its last line, as the draft keeps it
pub last_is : (text : List ℕ) (draft : Draft) (rest : List ℕ) → (h : Onward text draft rest)
    → draft.last ≡ last_as (last_of h.lines)
last_is text draft rest h =
    ap (λ (d : Draft). d.last) h.is ∙ puts_last h.lines empty_draft None refl

pub onward_more : {text rest : List ℕ} {draft : Draft} (more : List ℕ) (after : Draft)
    → Onward text draft rest → TakesLine (follows draft.last) rest more draft after
    → Onward text after more
onward_more {text} {rest} {draft} more after h t =
    let line : Line = t.line in
    let may : may_follow (last_of h.lines) t.line ≡ true =
    sym (follow_same (last_of h.lines) t.line)
    ∙ ap (λ l. follows l t.line) (sym (last_is text draft rest h)) ∙ t.begins.follows in
    record {
      lines = h.lines ++ t.line ∷ [];
      begins = record {
        fit =
            All-append Fits h.lines (t.line ∷ []) h.begins.fit
            (All-cons Fits t.line [] t.begins.fits (All-nil Fits));
        order = order_more None h.lines t.line h.begins.order may;
        is =
            h.begins.is ∙ ap (λ r. flat_map line_text h.lines ++ r) t.begins.is
            ∙ sym (append_assoc (flat_map line_text h.lines) (line_text t.line) more)
            ∙ ap (λ front. (flat_map line_text h.lines ++ front) ++ more)
            (sym (append-nil (line_text t.line)))
            ∙ ap (λ front. front ++ more)
            (sym (flat_map-append line_text h.lines (t.line ∷ [])));
      };
      is = t.put ∙ ap (put t.line) h.is ∙ sym (puts_more h.lines t.line empty_draft);
    }

-- the whole text was read
pub onward_all : (text : List ℕ) (draft : Draft) (rest : List ℕ) → Onward text draft rest
    → draft.last ≡ last.End → rest ≡ [] → ReadsAll text draft
onward_all text draft rest h e none = record {
  lines = h.lines;
  are = record {
    whole = subst (λ r. BeginsWith text h.lines r) none h.begins;
    ends = end_last (last_of h.lines) (sym (last_is text draft rest h) ∙ e);
  };
  is = h.is;
}

-- no line may stand there
pub onward_stops : (text : List ℕ) (draft after : Draft) (rest : List ℕ) (number : ℕ)
    → Onward text draft rest → TakesNone (follows draft.last) rest draft after
    → (draft.last ≡ last.End → rest ≡ [] → ⊥) → number ≡ draft.lines + 1 → BreaksAt text number
onward_stops text draft after rest number h t unended is = record {
  lines = h.lines;
  rest = rest;
  begins = h.begins;
  stops =
      λ (has : HasLine (last_of h.lines) rest). t.none has.line has.others (record {
        fits = has.fits;
        follows =
            ap (λ l. follows l has.line) (last_is text draft rest h)
            ∙ follow_same (last_of h.lines) has.line ∙ has.follows;
        is = has.is;
      });
  unended =
      λ (are : AreLines text h.lines). unended
      (last_is text draft rest h ∙ ap last_as are.ends) (nothing_left are);
  is =
      is
      ∙ ap (λ n. n + 1) (ap (λ (d : Draft). d.lines) h.is ∙ puts_lines h.lines empty_draft
      ∙ nothing_before (length h.lines));
}
  where
    nothing_before : (n : ℕ) → 0 + n ≡ n
    nothing_before n = omega arith

    empty_by : (xs : List ℕ) → length xs ≡ 0 → xs ≡ []
    empty_by [] e = refl
    empty_by (x ∷ xs) e = absurd (omega (arith, e))

    same_length : (front rest : List ℕ) → front ++ rest ≡ front ++ [] → length rest ≡ 0
    same_length [] rest e = ap length e
    same_length (x ∷ front) rest e = same_length front rest (ap (drop 1) e)

    nothing_left : AreLines text h.lines → rest ≡ []
    nothing_left are =
        let both : flat_map line_text h.lines ++ rest ≡ flat_map line_text h.lines ++ [] =
        sym h.begins.is ∙ are.whole.is in
        empty_by rest (same_length (flat_map line_text h.lines) rest both)
