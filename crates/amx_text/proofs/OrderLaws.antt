-- The lines of a file stand in their order, up to the end, and each fits its fields.
use Rattle.std.proofs.Common.{◌≡◌, ◌+◌, ◌-◌, ◌*◌, ◌<◌, ◌≤◌, ◌^◌, ℕ, zero, suc, ℤ, Bool, true}
use Rattle.std.proofs.Common.{false, List, [], ◌∷◌, ◌++◌, None, Some, Option, All, length, take}
use Rattle.std.proofs.Common.{nat_le, refl, sym, subst, arith, FitsSigned, w32, le-leb, leb-true}
use Rattle.std.proofs.Common.{eq-eqb, length-take}
use Rattle.std.specs.List.{flat_map, last_or}
use Rattle.std.proofs.lemmas.Bool.{and_from, true≢false}
use Rattle.std.proofs.lemmas.List.Elements.{All-nil, All-cons, All-head, All-tail, All-append}
use Rattle.std.proofs.lemmas.List.Elements.{All-take, All-map}
use Rattle.pawn_base.specs.Cells.{AreCells}
use Rattle.amx_ops.specs.declared.amx.Amx.{Amx}
use Rattle.amx_ops.specs.declared.amx.Record.{Record}
use Rattle.amx_ops.specs.Instructions.{Placed}
use Rattle.amx_ops.specs.Written.{Written, IsWritten, IsCodeOf, cells_of, places, read_as}
use Rattle.amx_text.specs.declared.kind.Kind.{Kind}
use Rattle.amx_text.specs.declared.kind.Kind.TheVariants.{Public, Native, Library, Variable, Tag}
use Rattle.amx_text.specs.declared.listing.TheConstants.{WIDTH}
use Rattle.amx_text.specs.Listing.{header_of}
use Rattle.amx_text.specs.Forms.{Line, HeaderLine, RecordLine, CodeLine, InstructionLine, DataLine}
use Rattle.amx_text.specs.Forms.{CellsLine, EndLine, place_of, may_follow, Fits, RecordFits}
use Rattle.amx_text.specs.Texts.{are_in_order, last_of}
use Rattle.amx_text.specs.Listed.{FieldsFit, PlacesFit}
use Rattle.amx_text.proofs.LinesOf.{lines_in, lines_at, rows_from, lines_of_data, lines_of_cells}
use Rattle.amx_text.proofs.LinesOf.{lines_of}

-- ---- their order

-- a line behind which a record of a table may stand: the header, or a record of the table or of an
-- earlier one
abbrev pub opens : ℕ → Line → Bool
opens place (HeaderLine it) = true
opens place (RecordLine kind it) = nat_le (place_of kind) place
opens place line = false

record_follows : (before : Line) (kind : Kind) (it : Record) → opens (place_of kind) before ≡ true
    → may_follow (Some before) (RecordLine kind it) ≡ true
record_follows (HeaderLine head) kind it h = refl
record_follows (RecordLine other next) kind it h = h
record_follows before kind it h = absurd (true≢false (sym h))

code_follows : (before : Line) (place : ℕ) → opens place before ≡ true
    → may_follow (Some before) CodeLine ≡ true
code_follows (HeaderLine head) place h = refl
code_follows (RecordLine other next) place h = refl
code_follows before place h = absurd (true≢false (sym h))

opens_more : (before : Line) (a b : ℕ) → a ≤ b → opens a before ≡ true → opens b before ≡ true
opens_more (HeaderLine it) a b h e = refl
opens_more (RecordLine kind it) a b h e =
    le-leb (place_of kind) b (omega (arith, leb-true (place_of kind) a e))
opens_more before a b h e = absurd (true≢false (sym e))

-- what may stand behind each line of which this is so
abbrev AfterEach : (Line → Bool) → List Line → Type 0
AfterEach test more = (last : Line) → test last ≡ true → are_in_order (Some last) more ≡ true

order_in : (kind : Kind) (records : List Record) (more : List Line)
    → AfterEach (opens (place_of kind)) more
    → AfterEach (opens (place_of kind)) (lines_in kind records ++ more)
order_in kind [] more f before h = f before h
order_in kind (it ∷ records) more f before h =
    and_from (may_follow (Some before) (RecordLine kind it)) _ (record_follows before kind it h)
    (order_in kind records more f (RecordLine kind it)
    (le-leb (place_of kind) (place_of kind) (omega arith)))

-- behind an earlier table
order_next : (kind : Kind) (records : List Record) (more : List Line) (place : ℕ)
    → place ≤ place_of kind → AfterEach (opens (place_of kind)) more
    → AfterEach (opens place) (lines_in kind records ++ more)
order_next kind records more place h f before e =
    order_in kind records more f before (opens_more before place (place_of kind) h e)

-- a line behind which an instruction may stand
abbrev is_code : Line → Bool
is_code CodeLine = true
is_code (InstructionLine at it) = true
is_code line = false

instruction_follows : (before : Line) (at : ℕ) (it : Written) → is_code before ≡ true
    → may_follow (Some before) (InstructionLine at it) ≡ true
instruction_follows CodeLine at it h = refl
instruction_follows (InstructionLine place other) at it h = refl
instruction_follows before at it h = absurd (true≢false (sym h))

data_follows : (before : Line) → is_code before ≡ true → may_follow (Some before) DataLine ≡ true
data_follows CodeLine h = refl
data_follows (InstructionLine place other) h = refl
data_follows before h = absurd (true≢false (sym h))

order_at : (at : ℕ) (its : List Written) (more : List Line) → AfterEach is_code more
    → AfterEach is_code (lines_at at its ++ more)
order_at at [] more f before h = f before h
order_at at (it ∷ its) more f before h =
    and_from (may_follow (Some before) (InstructionLine at it)) _
    (instruction_follows before at it h)
    (order_at (at + 4 * length (cells_of it)) its more f (InstructionLine at it) refl)

-- a line behind which the end may stand, and a row too where there is one
record OpensRows (before : Line) (more : ℕ) : Type 0 where
  end : may_follow (Some before) EndLine ≡ true
  row : 1 ≤ more → (at : ℕ) (cells : List ℤ) → may_follow (Some before) (CellsLine at cells) ≡ true

full : (cells : List ℤ) → WIDTH ≤ length cells → length (take WIDTH cells) ≡ WIDTH
full cells h = omega (arith, length-take WIDTH cells)

order_from : (at passed : ℕ) (cells : List ℤ) (before : Line)
    → OpensRows before (length cells - passed)
    → are_in_order (Some before) (rows_from at passed cells ++ (EndLine ∷ [])) ≡ true
order_from at passed [] before h = and_from (may_follow (Some before) EndLine) true h.end refl
order_from at (suc passed) (cell ∷ cells) before h =
    order_from (at + 4) passed cells before
    (record { end = h.end; row = λ more. h.row (omega (arith, more)) })
order_from at zero (cell ∷ cells) before h =
    let row : List ℤ = take WIDTH (cell ∷ cells) in
    and_from (may_follow (Some before) (CellsLine at row)) _ (h.row (omega arith) at row)
    (order_from (at + 4) (WIDTH - 1) cells (CellsLine at row)
    (record {
      end = refl;
      row =
          λ more place others.
          eq-eqb (length row) WIDTH (full (cell ∷ cells) (omega (arith, more)));
    }))

order_of_data : (store : List ℤ) → AfterEach is_code (lines_of_data store)
order_of_data store before h =
    and_from (may_follow (Some before) DataLine) _ (data_follows before h)
    (order_from 0 0 store DataLine (record { end = refl; row = λ more at cells. refl }))

order_of_cells : (its : List Written) (store : List ℤ)
    → AfterEach (opens 4) (lines_of_cells its store)
order_of_cells its store before h =
    and_from (may_follow (Some before) CodeLine) _ (code_follows before 4 h)
    (order_at 0 its (lines_of_data store) (order_of_data store) CodeLine refl)

pub order_of_lines : (amx : Amx) (its : List Written) → are_in_order None (lines_of amx its) ≡ true
order_of_lines amx its =
    order_in Public amx.publics _ (order_next Native amx.natives _ 0 (omega arith)
    (order_next Library amx.libraries _ 1 (omega arith)
    (order_next Variable amx.variables _ 2 (omega arith)
    (order_next Tag amx.tags _ 3 (omega arith) (order_of_cells its amx.store)))))
    (HeaderLine (header_of amx)) refl

-- ---- their end

-- lines whose last is the end, whatever stands before them
abbrev Ends : List Line → Type 0
Ends lines = (before : Option Line) → last_or before lines ≡ Some EndLine

ends_over : (lines more : List Line) → Ends more → Ends (lines ++ more)
ends_over [] more h before = h before
ends_over (line ∷ lines) more h before = ends_over lines more h (Some line)

pub end_of_lines : (amx : Amx) (its : List Written) → last_of (lines_of amx its) ≡ Some EndLine
end_of_lines amx its =
    let cells : Ends (lines_of_cells its amx.store) = λ before.
    ends_over (lines_at 0 its) (lines_of_data amx.store)
    (λ before. ends_over (rows_from 0 0 amx.store) (EndLine ∷ []) (λ before. refl) (Some DataLine))
    (Some CodeLine) in
    ends_over (lines_in Public amx.publics) _ (ends_over (lines_in Native amx.natives) _
    (ends_over (lines_in Library amx.libraries) _ (ends_over (lines_in Variable amx.variables) _
    (ends_over (lines_in Tag amx.tags) (lines_of_cells its amx.store) cells))))
    (Some (HeaderLine (header_of amx)))

-- ---- their fields

pub all_front : {X : Type 0} (P : X → Type 0) (xs ys : List X) → All P (xs ++ ys) → All P xs
all_front P [] ys h = All-nil P
all_front P (x ∷ xs) ys h =
    All-cons P x xs (All-head P x (xs ++ ys) h) (all_front P xs ys (All-tail P x (xs ++ ys) h))

pub all_behind : {X : Type 0} (P : X → Type 0) (xs ys : List X) → All P (xs ++ ys) → All P ys
all_behind P [] ys h = h
all_behind P (x ∷ xs) ys h = all_behind P xs ys (All-tail P x (xs ++ ys) h)

fits_at : (at : ℕ) (its : List Written) → All IsWritten its → AreCells (flat_map cells_of its)
    → All (λ (it : Placed). it.at < 2 ^ 32) (places at its) → All Fits (lines_at at its)
fits_at at [] h k p = All-nil Fits
fits_at at (it ∷ its) h k p =
    let next = at + 4 * length (cells_of it) in
    let first : Placed = record { at = at; instr = read_as it } in
    All-cons Fits (InstructionLine at it) (lines_at next its)
    (record {
      address = All-head (λ (it : Placed). it.at < 2 ^ 32) first (places next its) p;
      written = All-head IsWritten it its h;
      cells = all_front (FitsSigned w32) (cells_of it) (flat_map cells_of its) k;
    })
    (fits_at next its (All-tail IsWritten it its h)
    (all_behind (FitsSigned w32) (cells_of it) (flat_map cells_of its) k)
    (All-tail (λ (it : Placed). it.at < 2 ^ 32) first (places next its) p))

fits_from : (at passed : ℕ) (cells : List ℤ) → AreCells cells → at + 4 * length cells ≤ 2 ^ 32
    → All Fits (rows_from at passed cells)
fits_from at passed [] h k = All-nil Fits
fits_from at (suc passed) (cell ∷ cells) h k =
    fits_from (at + 4) passed cells (All-tail (FitsSigned w32) cell cells h) (omega (arith, k))
fits_from at zero (cell ∷ cells) h k =
    let row : List ℤ = take WIDTH (cell ∷ cells) in
    let size = length-take WIDTH (cell ∷ cells) in
    All-cons Fits (CellsLine at row) (rows_from (at + 4) (WIDTH - 1) cells)
    (record {
      address = omega (arith, k);
      some = omega (arith, size);
      few = omega (arith, size);
      fit = All-take (FitsSigned w32) WIDTH (cell ∷ cells) h;
    })
    (fits_from (at + 4) (WIDTH - 1) cells (All-tail (FitsSigned w32) cell cells h)
    (omega (arith, k)))

fits_in : (kind : Kind) (records : List Record) (more : List Line) → All RecordFits records
    → All Fits more → All Fits (lines_in kind records ++ more)
fits_in kind records more h k =
    All-append Fits (lines_in kind records) more (All-map Fits (RecordLine kind) records h) k

pub fits_of_lines : (amx : Amx) (its : List Written) → FieldsFit amx → PlacesFit amx
    → IsCodeOf its amx.code → All Fits (lines_of amx its)
fits_of_lines amx its h p code =
    let natives = all_behind RecordFits amx.publics _ h.records in
    let libraries = all_behind RecordFits amx.natives _ natives in
    let variables = all_behind RecordFits amx.libraries _ libraries in
    let data_fits : All Fits (lines_of_data amx.store) =
    All-cons Fits DataLine _ tt
    (All-append Fits (rows_from 0 0 amx.store) (EndLine ∷ [])
    (fits_from 0 0 amx.store h.store (omega (arith, p.store)))
    (All-cons Fits EndLine [] tt (All-nil Fits))) in
    let code_fits : All Fits (lines_of_cells its amx.store) =
    All-cons Fits CodeLine _ tt
    (All-append Fits (lines_at 0 its) (lines_of_data amx.store)
    (fits_at 0 its code.written (subst AreCells (sym code.cells) h.code)
    (subst (λ list. All (λ (it : Placed). it.at < 2 ^ 32) list) code.placed p.code)) data_fits) in
    All-cons Fits (HeaderLine (header_of amx)) _ h.header
    (fits_in Public amx.publics _ (all_front RecordFits amx.publics _ h.records)
    (fits_in Native amx.natives _ (all_front RecordFits amx.natives _ natives)
    (fits_in Library amx.libraries _ (all_front RecordFits amx.libraries _ libraries)
    (fits_in Variable amx.variables _ (all_front RecordFits amx.variables _ variables)
    (fits_in Tag amx.tags _ (all_behind RecordFits amx.variables _ variables) code_fits)))))
