-- A line that is taken is put into the draft; where none is, none that may follow stands there.
use Rattle.std.proofs.Common.{◌≡◌, ◌∙◌, ◌+◌, ◌-◌, ◌<◌, ◌≤◌, ◌++◌, ℕ, ℤ, pos, List, [], ◌∷◌, Bool}
use Rattle.std.proofs.Common.{true, false}
use Rattle.std.proofs.Common.{Option, None, Some, Result, Ok, Err, length, drop, refl, sym, ap}
use Rattle.std.proofs.Common.{subst, arith, ◌⊎◌, inl, inr}
use Rattle.std.proofs.Common.{codes, append_assoc, length-append, FitsSigned, w32, to_z, of_z, Bor}
use Rattle.std.proofs.Math.Seq.{drop-append_seam}
use Rattle.std.proofs.lemmas.Int.{to_z-of_z}
use Rattle.pawn_base.specs.declared.memory.Memory.{Memory}
use Rattle.amx_ops.specs.declared.amx.Record.{Record}
use Rattle.amx_ops.specs.declared.table.Operand.{Operand}
use Rattle.amx_ops.specs.Written.{cells_of}
use Rattle.amx_text.specs.declared.draft.Draft.{Draft}
use Rattle.amx_text.specs.declared.kind.Kind.{Kind}
use Rattle.amx_text.specs.declared.kind.Kind.TheVariants.{Public}
use Rattle.amx_text.specs.declared.last.Last.{Last}
use Rattle.amx_text.specs.declared.last.Last.TheVariants as last
use Rattle.amx_text.specs.Lines.{Header}
use Rattle.amx_text.specs.Forms.{Line, HeaderLine, RecordLine, CodeLine, InstructionLine, DataLine}
use Rattle.amx_text.specs.Forms.{CellsLine, EndLine, RecordFits}
use Rattle.amx_text.specs.Readers.{after_word, header_at, kind_at, record_text, address_at}
use Rattle.amx_text.specs.Readers.{operation_at}
use Rattle.amx_text.specs.Readers.{has_operands, PutsCells}
use Rattle.amx_text.specs.Drafts.{Takes, TakesLine, TakesNone, follows, is_header, is_record}
use Rattle.amx_text.specs.Drafts.{is_instruction, is_row, ended, with_header, with_record}
use Rattle.amx_text.specs.Drafts.{placed_draft}
use Rattle.amx_text.specs.Drafts.{row_last}
use Rattle.amx_text.proofs.ReaderLaws.{word_is}
use Rattle.amx_text.proofs.CodeReads.{an_instruction, no_operands, no_end as no_line_end, a_row}
use Rattle.amx_text.proofs.CodeReads.{no_row_end}
use Rattle.amx_text.proofs.CodeReads.{no_width}
use Rattle.amx_text.proofs.TakeLaws.{Nothing, a_header, a_record_line, an_instruction_line}
use Rattle.amx_text.proofs.TakeLaws.{no_instruction}
use Rattle.amx_text.proofs.TakeLaws.{no_row, no_end, tables_none, code_none, data_none}

-- ---- the header

pub header_put : (text rest : List ℕ) (it : Header) (old new : Draft)
    → header_at text ≡ Some (it, rest)
    → new ≡ ended (last.Tables Public)
    (with_header (record it { entry = to_z w32 (of_z w32 it.entry) }) old)
    → TakesLine is_header text rest old new
header_put text rest it old new e is =
    let begins = a_header text rest it e in
    record {
      line = HeaderLine it;
      begins = begins;
      put =
          is
          ∙ ap (λ (z : ℤ). ended (last.Tables Public) (with_header (record it { entry = z }) old))
          (to_z-of_z w32 it.entry begins.fits.entry);
    }

-- ---- lines of one word

pub code_put : (from : Kind) (text rest : List ℕ) (old new : Draft)
    → after_word (codes "code\n") text ≡ Some rest
    → new ≡ ended last.Code (record old { code_mark = old.lines })
    → TakesLine (follows (last.Tables from)) text rest old new
code_put from text rest old new e is = record {
  line = CodeLine;
  begins = record { fits = tt; follows = refl; is = word_is (codes "code\n") text rest e };
  put = is;
}

pub data_put : (text rest : List ℕ) (old new : Draft)
    → after_word (codes "data\n") text ≡ Some rest
    → new ≡ ended last.Data (record old { data_mark = old.lines })
    → TakesLine (follows last.Code) text rest old new
data_put text rest old new e is = record {
  line = DataLine;
  begins = record { fits = tt; follows = refl; is = word_is (codes "data\n") text rest e };
  put = is;
}

pub end_put : (may : Line → Bool) (text rest : List ℕ) (old new : Draft) → may EndLine ≡ true
    → after_word (codes "end\n") text ≡ Some rest → new ≡ ended last.End old
    → TakesLine may text rest old new
end_put may text rest old new h e is = record {
  line = EndLine;
  begins = record { fits = tt; follows = h; is = word_is (codes "end\n") text rest e };
  put = is;
}

-- ---- a line of one word, or a line of another kind

go_on : (may other : Line → Bool) (text : List ℕ) (old new : Draft)
    (result : Result (Option (Bor (List ℕ))) Memory)
    → ((line : Line) → other line ≡ true → may line ≡ true)
    → (Nothing other text → Nothing may text)
    → Takes other text old new result → Takes may text old new result
go_on may other text old new (Ok (Some rest)) wider none h = record {
  line = h.line;
  begins = record {
    fits = h.begins.fits;
    follows = wider h.line h.begins.follows;
    is = h.begins.is;
  };
  put = h.put;
}
go_on may other text old new (Ok None) wider none h =
    record { none = none h.none; lines = h.lines; last = h.last }
go_on may other text old new (Err fault) wider none h = tt

record_follows : (from : Kind) (line : Line) → is_record from line ≡ true
    → follows (last.Tables from) line ≡ true
record_follows from (HeaderLine it) h = absurd (let no : false ≡ true = h in cc)
record_follows from (RecordLine kind it) h = h
record_follows from CodeLine h = absurd (let no : false ≡ true = h in cc)
record_follows from (InstructionLine at it) h = absurd (let no : false ≡ true = h in cc)
record_follows from DataLine h = absurd (let no : false ≡ true = h in cc)
record_follows from (CellsLine at cells) h = absurd (let no : false ≡ true = h in cc)
record_follows from EndLine h = absurd (let no : false ≡ true = h in cc)

instruction_follows : (line : Line) → is_instruction line ≡ true → follows last.Code line ≡ true
instruction_follows (HeaderLine it) h = absurd (let no : false ≡ true = h in cc)
instruction_follows (RecordLine kind it) h = absurd (let no : false ≡ true = h in cc)
instruction_follows CodeLine h = absurd (let no : false ≡ true = h in cc)
instruction_follows (InstructionLine at it) h = refl
instruction_follows DataLine h = absurd (let no : false ≡ true = h in cc)
instruction_follows (CellsLine at cells) h = absurd (let no : false ≡ true = h in cc)
instruction_follows EndLine h = absurd (let no : false ≡ true = h in cc)

row_follows : (line : Line) → is_row line ≡ true → follows last.Data line ≡ true
row_follows (HeaderLine it) h = absurd (let no : false ≡ true = h in cc)
row_follows (RecordLine kind it) h = absurd (let no : false ≡ true = h in cc)
row_follows CodeLine h = absurd (let no : false ≡ true = h in cc)
row_follows (InstructionLine at it) h = absurd (let no : false ≡ true = h in cc)
row_follows DataLine h = absurd (let no : false ≡ true = h in cc)
row_follows (CellsLine at cells) h = refl
row_follows EndLine h = absurd (let no : false ≡ true = h in cc)

pub tables_on : (from : Kind) (text : List ℕ) (old new : Draft)
    (result : Result (Option (Bor (List ℕ))) Memory) → after_word (codes "code\n") text ≡ None
    → Takes (is_record from) text old new result
    → Takes (follows (last.Tables from)) text old new result
tables_on from text old new result e h =
    go_on (follows (last.Tables from)) (is_record from) text old new result (record_follows from)
    (tables_none from text e) h

pub code_on : (text : List ℕ) (old new : Draft)
    (result : Result (Option (Bor (List ℕ))) Memory) → after_word (codes "data\n") text ≡ None
    → Takes is_instruction text old new result → Takes (follows last.Code) text old new result
code_on text old new result e h =
    go_on (follows last.Code) is_instruction text old new result instruction_follows
    (code_none text e) h

pub data_on : (text : List ℕ) (old new : Draft)
    (result : Result (Option (Bor (List ℕ))) Memory) → after_word (codes "end\n") text ≡ None
    → Takes is_row text old new result → Takes (follows last.Data) text old new result
data_on text old new result e h =
    go_on (follows last.Data) is_row text old new result row_follows
    (data_none text (no_end text e)) h

-- ---- behind the last line

-- the same of the line that a draft's last one is
pub as_last : (before now : Last) (text : List ℕ) (old new : Draft)
    (result : Result (Option (Bor (List ℕ))) Memory) → before ≡ now
    → Takes (follows now) text old new result → Takes (follows before) text old new result
as_last before now text old new result e h =
    subst (λ (l : Last). Takes (follows l) text old new result) (sym e) h

none_last : (line : Line) → follows last.End line ≡ false
none_last (HeaderLine it) = refl
none_last (RecordLine kind it) = refl
none_last CodeLine = refl
none_last (InstructionLine at it) = refl
none_last DataLine = refl
none_last (CellsLine at cells) = refl
none_last EndLine = refl

-- nothing follows the end
pub end_stays : (before : Last) (text : List ℕ) (draft : Draft) → before ≡ last.End
    → TakesNone (follows before) text draft draft
end_stays before text draft e = record {
  none =
      λ line rest h. (let no : follows last.End line ≡ true =
      ap (λ (l : Last). follows l line) (sym e) ∙ h.follows in
      let never = none_last line in
      let no_more : false ≡ true = sym never ∙ no in
      let bad : ⊥ = cc in bad);
  lines = refl;
  last = refl;
}

-- ---- records

pub record_put : (from kind : Kind) (it : Record) (text behind rest : List ℕ) (old mid new : Draft)
    → kind_at from text ≡ Some (kind, behind)
    → RecordFits it × (behind ≡ record_text it ++ rest) → mid ≡ with_record kind it old
    → new ≡ ended (last.Tables kind) mid → TakesLine (is_record from) text rest old new
record_put from kind it text behind rest old mid new e read mid_is is = record {
  line = RecordLine kind it;
  begins = a_record_line from kind it text behind rest e read.0 read.1;
  put = is ∙ ap (λ (d : Draft). ended (last.Tables kind) d) mid_is;
}

-- ---- instructions

-- the cells that were put behind an instruction's number
pub cells_put : (old pushed code cells : List ℤ) (number : ℤ) (before : ℕ)
    → before ≡ length old → pushed ≡ old ++ (number ∷ []) → code ≡ pushed ++ cells
    → drop (before + 1) code ≡ cells
cells_put old pushed code cells number before start first is =
    let count : before + 1 ≡ length (old ++ (number ∷ [])) =
    omega (arith, start, length-append old (number ∷ [])) in
    ap (drop (before + 1)) (is ∙ ap (λ p. p ++ cells) first)
    ∙ ap (λ n. drop n ((old ++ (number ∷ [])) ++ cells)) count
    ∙ drop-append_seam (old ++ (number ∷ [])) cells

-- what was read of an instruction's line, with the cells of the code before it and now
pub record CodeRead (text : List ℕ) (at : ℕ) (old code : List ℤ) (number : ℕ) (kind : Operand)
    (rest : Option (Bor (List ℕ))) : Type 0 where
  pub behind : List ℕ
  pub others : List ℕ
  pub pushed : List ℤ
  pub address : address_at text ≡ Some (at, behind)
  pub operation : operation_at behind ≡ Some ((number, kind), others)
  pub first : pushed ≡ old ++ (pos number ∷ [])
  pub cells : PutsCells others pushed code rest

-- it, where the number was put as a cell
pub code_read : {text behind others : List ℕ} {at number : ℕ} {old pushed code : List ℤ}
    {kind : Operand} {rest : Option (Bor (List ℕ))} {cell : ℤ}
    → address_at text ≡ Some (at, behind)
    → operation_at behind ≡ Some ((number, kind), others)
    → pushed ≡ old ++ (to_z w32 (of_z w32 cell) ∷ []) → cell ≡ pos number → FitsSigned w32 cell
    → PutsCells others pushed code rest → CodeRead text at old code number kind rest
code_read {behind = behind} {others = others} {old = old} {pushed = pushed} {cell = cell} address
    operation first is fits cells = record {
      behind = behind;
      others = others;
      pushed = pushed;
      address = address;
      operation = operation;
      first = first ∙ ap (λ z. old ++ (z ∷ [])) (to_z-of_z w32 cell fits ∙ is);
      cells = cells;
    }

pub no_line_put : (text : List ℕ) (at : ℕ) (old code : List ℤ) (number : ℕ) (kind : Operand)
    → CodeRead text at old code number kind None → Nothing is_instruction text
no_line_put text at old code number kind h =
    no_instruction text
    (no_line_end text at h.behind h.address number kind h.others h.operation h.cells.cells
    h.cells.end h.cells.whole h.cells.leaves)

pub no_operands_put : (text : List ℕ) (at before : ℕ) (old code : List ℤ) (number : ℕ)
    (kind : Operand) (rest : Option (Bor (List ℕ))) → CodeRead text at old code number kind rest
    → before ≡ length old → has_operands kind (drop (before + 1) code) ≡ false
    → Nothing is_instruction text
no_operands_put text at before old code number kind rest h start bad =
    let same =
    cells_put old h.pushed code h.cells.cells (pos number) before start h.first h.cells.put in
    no_instruction text
    (no_operands text at h.behind h.address number kind h.others h.operation h.cells.cells
    h.cells.end h.cells.whole (ap (has_operands kind) (sym same) ∙ bad))

pub instruction_put : (text : List ℕ) (rest : Bor (List ℕ)) (at before : ℕ) (code : List ℤ)
    (starts : List ℕ) (number : ℕ) (kind : Operand) (old mid new : Draft)
    → CodeRead text at old.amx.code code number kind (Some rest) → before ≡ length old.amx.code
    → FitsSigned w32 (pos number) → has_operands kind (drop (before + 1) code) ≡ true
    → starts ≡ old.starts ++ (at ∷ [])
    → mid ≡ placed_draft at before
    (record old { amx = record old.amx { code = code }; starts = starts })
    → new ≡ ended last.Code mid → TakesLine is_instruction text rest.now old new
instruction_put text rest at before code starts number kind old mid new h start fits good
    starts_is mid_is is =
    let same =
    cells_put old.amx.code h.pushed code h.cells.cells (pos number) before start h.first
    h.cells.put in
    let it =
    an_instruction text at h.behind h.address number kind h.others h.operation h.cells.cells
    h.cells.end h.cells.whole rest.now h.cells.leaves (ap (has_operands kind) (sym same) ∙ good)
    fits in
    let all =
    h.cells.put ∙ ap (λ p. p ++ h.cells.cells) h.first
    ∙ append_assoc old.amx.code (pos number ∷ []) h.cells.cells
    ∙ ap (λ cs. old.amx.code ++ cs) (sym it.all) in
    record {
      line = InstructionLine at it.it;
      begins = an_instruction_line at it.it text rest.now it.stands;
      put =
          is
          ∙ ap (λ (d : Draft). ended last.Code d) (mid_is
          ∙ ap (λ n. placed_draft at n (record old {
            amx = record old.amx { code = code };
            starts = starts;
          })) start
          ∙ ap (λ (cs : List ℤ). placed_draft at (length old.amx.code) (record old {
            amx = record old.amx { code = cs };
            starts = starts;
          })) all
          ∙ ap (λ (ss : List ℕ). placed_draft at (length old.amx.code) (record old {
            amx = record old.amx { code = old.amx.code ++ cells_of it.it };
            starts = ss;
          })) starts_is);
    }

-- ---- rows of cells

-- what was read of a row, with the cells of the data before it and now
pub record RowRead (text : List ℕ) (at : ℕ) (old store : List ℤ) (rest : Option (Bor (List ℕ)))
    : Type 0 where
  pub behind : List ℕ
  pub address : address_at text ≡ Some (at, behind)
  pub cells : PutsCells behind old store rest

pub no_row_line : (text : List ℕ) (at : ℕ) (old store : List ℤ) → RowRead text at old store None
    → Nothing is_row text
no_row_line text at old store h =
    no_row text
    (no_row_end text at h.behind h.address h.cells.cells h.cells.end h.cells.whole h.cells.leaves)

-- so many cells
row_many : {text : List ℕ} {at before after : ℕ} {old store : List ℤ}
    {rest : Option (Bor (List ℕ))} → (h : RowRead text at old store rest) → before ≡ length old
    → after ≡ length store → length h.cells.cells ≡ after - before
row_many {old = old} h start stop =
    omega (arith, start, stop, ap length h.cells.put, length-append old h.cells.cells)

-- one of two, where the second is told behind the first
pub one_of : {A B N : Type 0} → A ⊎ (N × B) → A ⊎ B
one_of (inl a) = inl a
one_of (inr b) = inr b.1

pub no_row_width : (text : List ℕ) (at before after : ℕ) (old store : List ℤ)
    (rest : Option (Bor (List ℕ))) → RowRead text at old store rest → before ≡ length old
    → after ≡ length store → (after - before ≡ 0) ⊎ (8 < after - before) → Nothing is_row text
no_row_width text at before after old store rest h start stop bad =
    no_row text
    (no_width text at h.behind h.address h.cells.cells h.cells.end h.cells.whole
    (subst (λ n. (n ≡ 0) ⊎ (8 < n)) (sym (row_many h start stop)) bad))

pub row_put : (text : List ℕ) (rest : Bor (List ℕ)) (at before after : ℕ) (store : List ℤ)
    (last : Last) (old mid new : Draft) → RowRead text at old.amx.store store (Some rest)
    → before ≡ length old.amx.store → after ≡ length store → 1 ≤ after - before
    → after - before ≤ 8
    → mid ≡ placed_draft at before (record old { amx = record old.amx { store = store } })
    → last ≡ row_last (after - before) → new ≡ ended last mid
    → TakesLine is_row text rest.now old new
row_put text rest at before after store last old mid new h start stop some few mid_is last_is is =
    let many = row_many h start stop in
    let row =
    a_row text at h.behind h.address h.cells.cells h.cells.end h.cells.whole rest.now h.cells.leaves
    (omega (arith, many, some)) (omega (arith, many, few)) in
    record {
      line = CellsLine at h.cells.cells;
      begins = record { fits = row.fits; follows = refl; is = row.is };
      put =
          is ∙ ap (λ (l : Last). ended l mid) (last_is ∙ ap row_last (sym many))
          ∙ ap (λ (d : Draft). ended (row_last (length h.cells.cells)) d) (mid_is
          ∙ ap (λ n. placed_draft at n (record old { amx = record old.amx { store = store } }))
          start
          ∙ ap (λ (cs : List ℤ). placed_draft at (length old.amx.store)
          (record old { amx = record old.amx { store = cs } })) h.cells.put);
    }
