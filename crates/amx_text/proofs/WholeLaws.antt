-- Lines in their order, from the header to the end, whose addresses are those that they should be:
-- they are the lines of a file.
use Rattle.std.proofs.Common.{◌≡◌, ◌+◌, ◌-◌, ◌*◌, ◌≤◌, ℕ, zero, suc, ℤ, Bool, true, false, ◌==◌}
use Rattle.std.proofs.Common.{List, [], ◌∷◌, ◌++◌, Some, All, length, take, drop, refl, sym, ap}
use Rattle.std.proofs.Common.{subst, ◌∙◌, arith, append-nil, take_all, drop_of_length-le, eqb-true}
use Rattle.std.specs.List.{last_or}
use Rattle.std.proofs.lemmas.Bool.{and_parts, true≢false}
use Rattle.std.proofs.lemmas.List.Elements.{All-nil, All-cons, All-head, All-tail}
use Rattle.amx_ops.specs.Written.{Written, IsWritten, cells_of}
use Rattle.amx_text.specs.declared.listing.TheConstants.{WIDTH}
use Rattle.amx_text.specs.Forms.{Line, HeaderLine, CodeLine, InstructionLine, DataLine, CellsLine}
use Rattle.amx_text.specs.Forms.{EndLine, may_follow, Fits}
use Rattle.amx_text.specs.Texts.{are_in_order}
use Rattle.amx_text.specs.Faults.{code_cells, store_cells}
use Rattle.amx_text.proofs.LinesOf.{lines_at, rows_from, lines_of_data, drop_over, take_over}
use Rattle.amx_text.proofs.PlacedLaws.{is_placed_at, are_placed_at}

-- ---- some last lines of a text

-- lines behind a line and so many cells of code and of data
pub record Tail (before : Line) (code store : ℕ) (lines : List Line) : Type 0 where
  pub order : are_in_order (Some before) lines ≡ true
  pub ends : last_or (Some before) lines ≡ Some EndLine
  pub fits : All Fits lines
  pub placed : are_placed_at code store lines ≡ true

pub record First (before : Line) (code store : ℕ) (line : Line) (lines : List Line) : Type 0 where
  pub follows : may_follow (Some before) line ≡ true
  pub fits : Fits line
  pub placed : is_placed_at code store line ≡ true
  pub others : Tail line (code + length (code_cells line)) (store + length (store_cells line)) lines

pub first_of : (before : Line) (code store : ℕ) (line : Line) (lines : List Line)
    → Tail before code store (line ∷ lines) → First before code store line lines
first_of before code store line lines t =
    let order =
    and_parts (may_follow (Some before) line) (are_in_order (Some line) lines) t.order in
    let placed =
    and_parts (is_placed_at code store line) (are_placed_at (code + length (code_cells line))
    (store + length (store_cells line)) lines) t.placed in
    record {
      follows = order.0;
      fits = All-head Fits line lines t.fits;
      placed = placed.0;
      others =
          record {
            order = order.1;
            ends = t.ends;
            fits = All-tail Fits line lines t.fits;
            placed = placed.1;
          };
    }

-- ---- rows of cells

pub rows_over : (at passed : ℕ) (cells : List ℤ)
    → rows_from at passed cells ≡ rows_from (at + 4 * passed) 0 (drop passed cells)
rows_over at zero cells = ap (λ a. rows_from a 0 cells) (omega arith)
rows_over at (suc passed) [] = refl
rows_over at (suc passed) (cell ∷ cells) =
    rows_over (at + 4) passed cells
    ∙ ap (λ a. rows_from a 0 (drop passed cells)) (omega arith)

module _ {X : Type 0} (xs ys : List X) (n : ℕ) (few : length xs ≤ n)
    (full : 1 ≤ length ys → length xs ≡ n) where
  take_short : take n (xs ++ ys) ≡ xs
  take_short = by ys full where
    by : (ys : List X) → (1 ≤ length ys → length xs ≡ n) → take n (xs ++ ys) ≡ xs
    by [] f = ap (take n) (append-nil xs) ∙ take_all n xs few
    by (y ∷ ys) f =
        let size : n ≡ length xs = sym (f (omega arith)) in
        ap (λ m. take m (xs ++ (y ∷ ys))) size ∙ take_over xs (y ∷ ys)

  drop_short : drop n (xs ++ ys) ≡ ys
  drop_short = by ys full where
    by : (ys : List X) → (1 ≤ length ys → length xs ≡ n) → drop n (xs ++ ys) ≡ ys
    by [] f = ap (drop n) (append-nil xs) ∙ drop_of_length-le xs few
    by (y ∷ ys) f =
        let size : n ≡ length xs + 0 = omega (arith, f (omega arith)) in
        ap (λ m. drop m (xs ++ (y ∷ ys))) size ∙ drop_over xs (y ∷ ys) 0

-- a row in front of the others
rows_first : (at : ℕ) (row cells : List ℤ) → 1 ≤ length row → length row ≤ WIDTH
    → (1 ≤ length cells → length row ≡ WIDTH)
    → rows_from at 0 (row ++ cells) ≡ CellsLine at row ∷ rows_from (at + 4 * length row) 0 cells
rows_first at [] cells some few full = absurd (omega (arith, some))
rows_first at (cell ∷ row) cells some few full =
    let taken = take_short (cell ∷ row) cells WIDTH few full in
    let left =
    drop_short row cells (WIDTH - 1) (omega (arith, few)) (λ more. omega (arith, full more)) in
    let next : rows_from (at + 4) (WIDTH - 1) (row ++ cells)
    ≡ rows_from (at + 4 + 4 * (WIDTH - 1)) 0 cells =
    rows_over (at + 4) (WIDTH - 1) (row ++ cells)
    ∙ ap (rows_from (at + 4 + 4 * (WIDTH - 1)) 0) left in
    let place : rows_from (at + 4 + 4 * (WIDTH - 1)) 0 cells
    ≡ rows_from (at + 4 * length (cell ∷ row)) 0 cells = place_by cells full in
    ap (λ first. CellsLine at first ∷ rows_from (at + 4) (WIDTH - 1) (row ++ cells)) taken
    ∙ ap (λ others. CellsLine at (cell ∷ row) ∷ others) (next ∙ place)
  where
    place_by : (cells : List ℤ) → (1 ≤ length cells → length (cell ∷ row) ≡ WIDTH)
        → rows_from (at + 4 + 4 * (WIDTH - 1)) 0 cells
        ≡ rows_from (at + 4 * length (cell ∷ row)) 0 cells
    place_by [] f = refl
    place_by (c ∷ cs) f = ap (λ a. rows_from a 0 (c ∷ cs)) (omega (arith, f (omega arith)))

record RowsBack (store : ℕ) (lines : List Line) : Type 0 where
  cells : List ℤ
  is : lines ≡ rows_from (4 * store) 0 cells ++ (EndLine ∷ [])

-- a line behind which rows and the end may stand
abbrev opens_rows : Line → Bool
opens_rows DataLine = true
opens_rows (CellsLine at cells) = true
opens_rows line = false

abbrev is_row_or_end : Line → Bool
is_row_or_end (CellsLine at cells) = true
is_row_or_end EndLine = true
is_row_or_end line = false

only_rows : (before line : Line) → opens_rows before ≡ true → may_follow (Some before) line ≡ true
    → is_row_or_end line ≡ true
only_rows DataLine (CellsLine at cells) h e = refl
only_rows DataLine EndLine h e = refl
only_rows DataLine line h e = absurd (true≢false (sym e))
only_rows (CellsLine place others) (CellsLine at cells) h e = refl
only_rows (CellsLine place others) EndLine h e = refl
only_rows (CellsLine place others) line h e = absurd (true≢false (sym e))
only_rows before line h e = absurd (true≢false (sym h))

nothing_follows : (line : Line) → may_follow (Some EndLine) line ≡ true → ⊥
nothing_follows (HeaderLine it) e = true≢false (sym e)
nothing_follows line e = true≢false (sym e)

full_row : (at place : ℕ) (row cells : List ℤ) (lines : List Line)
    → lines ≡ rows_from place 0 cells ++ (EndLine ∷ [])
    → are_in_order (Some (CellsLine at row)) lines ≡ true → 1 ≤ length cells → length row ≡ WIDTH
full_row at place row [] lines e h more = absurd (omega (arith, more))
full_row at place row (cell ∷ cells) lines e h more =
    eqb-true (length row) WIDTH
    (and_parts (length row == WIDTH) _
    (subst (λ list. are_in_order (Some (CellsLine at row)) list ≡ true) e h)).0

no_end : (test : Line → Bool) (before : Line) → test before ≡ true → test EndLine ≡ false
    → Some before ≡ Some EndLine → ⊥
no_end test before h k e =
    let same : before ≡ EndLine = cc in true≢false (sym h ∙ ap test same ∙ k)

rows_back : (code store : ℕ) (before : Line) (lines : List Line) → opens_rows before ≡ true
    → Tail before code store lines → RowsBack store lines
rows_back code store before [] h t = absurd (no_end opens_rows before h refl t.ends)
rows_back code store before (EndLine ∷ []) h t = record { cells = []; is = refl }
rows_back code store before (EndLine ∷ line ∷ lines) h t =
    let first = first_of before code store EndLine (line ∷ lines) t in
    absurd (nothing_follows line
    (and_parts (may_follow (Some EndLine) line) (are_in_order (Some line) lines)
    first.others.order).0)
rows_back code store before (CellsLine at row ∷ lines) h t =
    let first = first_of before code store (CellsLine at row) lines t in
    let back =
    rows_back (code + 0) (store + length row) (CellsLine at row) lines refl first.others in
    let here : at ≡ 4 * store = eqb-true at (4 * store) first.placed in
    let next : 4 * store + 4 * length row ≡ 4 * (store + length row) = omega arith in
    record {
      cells = row ++ back.cells;
      is =
          ap (λ a. CellsLine a row ∷ lines) here
          ∙ ap (λ others. CellsLine (4 * store) row ∷ others) back.is
          ∙ sym (ap (λ list. list ++ (EndLine ∷ []))
          (rows_first (4 * store) row back.cells first.fits.some first.fits.few
          (full_row at (4 * (store + length row)) row back.cells lines back.is first.others.order)
          ∙ ap (λ a. CellsLine (4 * store) row ∷ rows_from a 0 back.cells) next));
    }
rows_back code store before (line ∷ lines) h t =
    let first = first_of before code store line lines t in
    absurd (true≢false (sym (only_rows before line h first.follows)))

-- ---- instructions

pub record CodeBack (code : ℕ) (lines : List Line) : Type 0 where
  pub its : List Written
  pub written : All IsWritten its
  pub store : List ℤ
  pub is : lines ≡ lines_at (4 * code) its ++ lines_of_data store

abbrev opens_code : Line → Bool
opens_code CodeLine = true
opens_code (InstructionLine at it) = true
opens_code line = false

abbrev is_instruction_or_data : Line → Bool
is_instruction_or_data (InstructionLine at it) = true
is_instruction_or_data DataLine = true
is_instruction_or_data line = false

only_code : (before line : Line) → opens_code before ≡ true → may_follow (Some before) line ≡ true
    → is_instruction_or_data line ≡ true
only_code CodeLine (InstructionLine at it) h e = refl
only_code CodeLine DataLine h e = refl
only_code CodeLine line h e = absurd (true≢false (sym e))
only_code (InstructionLine place other) (InstructionLine at it) h e = refl
only_code (InstructionLine place other) DataLine h e = refl
only_code (InstructionLine place other) line h e = absurd (true≢false (sym e))
only_code before line h e = absurd (true≢false (sym h))

pub code_back : (code : ℕ) (before : Line) (lines : List Line) → opens_code before ≡ true
    → Tail before code 0 lines → CodeBack code lines
code_back code before [] h t = absurd (no_end opens_code before h refl t.ends)
code_back code before (DataLine ∷ lines) h t =
    let first = first_of before code 0 DataLine lines t in
    let back = rows_back (code + 0) 0 DataLine lines refl first.others in
    record {
      its = [];
      written = All-nil IsWritten;
      store = back.cells;
      is = ap (λ list. DataLine ∷ list) back.is;
    }
code_back code before (InstructionLine at it ∷ lines) h t =
    let first = first_of before code 0 (InstructionLine at it) lines t in
    let size = length (cells_of it) in
    let back = code_back (code + size) (InstructionLine at it) lines refl first.others in
    let here : at ≡ 4 * code = eqb-true at (4 * code) first.placed in
    let next : 4 * (code + size) ≡ 4 * code + 4 * size = omega arith in
    record {
      its = it ∷ back.its;
      written = All-cons IsWritten it back.its first.fits.written back.written;
      store = back.store;
      is =
          ap (λ a. InstructionLine a it ∷ lines) here
          ∙ ap (λ others. InstructionLine (4 * code) it ∷ others) (back.is
          ∙ ap (λ a. lines_at a back.its ++ lines_of_data back.store) next);
    }
code_back code before (line ∷ lines) h t =
    let first = first_of before code 0 line lines t in
    absurd (true≢false (sym (only_code before line h first.follows)))
