-- The lines of a file: the text of them all is its listing.
use Rattle.std.proofs.Common.{◌≡◌, ◌+◌, ◌-◌, ◌*◌, ◌/◌, ℕ, zero, suc, ℤ, List, [], ◌∷◌, ◌++◌, map}
use Rattle.std.proofs.Common.{length, take, drop, refl, sym, ap, ◌∙◌, append_assoc, arith}
use Rattle.std.proofs.Common.{length-append}
use Rattle.std.specs.List.{flat_map}
use Rattle.std.proofs.lemmas.List.Concat.{flat_map-append}
use Rattle.std.proofs.lemmas.List.Folds.{flat_map-map}
use Rattle.amx_ops.specs.declared.amx.Amx.{Amx}
use Rattle.amx_ops.specs.declared.amx.Record.{Record}
use Rattle.amx_ops.specs.Table.{number_of}
use Rattle.amx_ops.specs.Written.{Written, IsCodeOf, cells_of, places}
use Rattle.amx_text.specs.declared.kind.Kind.{Kind}
use Rattle.amx_text.specs.declared.kind.Kind.TheVariants.{Public, Native, Library, Variable, Tag}
use Rattle.amx_text.specs.declared.listing.TheConstants.{WIDTH}
use Rattle.amx_text.specs.Lines.{word_of, instruction_line, code_mark, data_mark, end_mark}
use Rattle.amx_text.specs.Lines.{header_text}
use Rattle.amx_text.specs.Listing.{header_of, record_lines, table_lines, line_of, code_lines}
use Rattle.amx_text.specs.Listing.{data_from, listing}
use Rattle.amx_text.specs.Forms.{Line, HeaderLine, RecordLine, CodeLine, InstructionLine, DataLine}
use Rattle.amx_text.specs.Forms.{CellsLine, EndLine, line_text}

-- ---- the lines

-- of a table
abbrev pub lines_in : Kind → List Record → List Line
lines_in kind records = map (RecordLine kind) records

-- of instructions from an address on
abbrev pub lines_at : ℕ → List Written → List Line
lines_at at [] = []
lines_at at (it ∷ its) = InstructionLine at it ∷ lines_at (at + 4 * length (cells_of it)) its

-- of cells from an address on, the first so many of which stand in the line before
abbrev pub rows_from : ℕ → ℕ → List ℤ → List Line
rows_from at passed [] = []
rows_from at (suc passed) (cell ∷ cells) = rows_from (at + 4) passed cells
rows_from at zero (cell ∷ cells) =
    CellsLine at (take WIDTH (cell ∷ cells)) ∷ rows_from (at + 4) (WIDTH - 1) cells

-- behind the code
abbrev pub lines_of_data : List ℤ → List Line
lines_of_data store = DataLine ∷ (rows_from 0 0 store ++ (EndLine ∷ []))

-- behind the tables
abbrev pub lines_of_cells : List Written → List ℤ → List Line
lines_of_cells its store = CodeLine ∷ (lines_at 0 its ++ lines_of_data store)

-- behind the header
abbrev pub lines_behind : Amx → List Written → List Line
lines_behind amx its =
    lines_in Public amx.publics ++ (lines_in Native amx.natives
    ++ (lines_in Library amx.libraries ++ (lines_in Variable amx.variables
    ++ (lines_in Tag amx.tags ++ lines_of_cells its amx.store))))

-- of a file whose code is these instructions
abbrev pub lines_of : Amx → List Written → List Line
lines_of amx its = HeaderLine (header_of amx) ∷ lines_behind amx its

-- ---- their text

-- of the lines of a table, and of others behind them
text_in : (kind : Kind) (records : List Record) (more : List Line)
    → flat_map line_text (lines_in kind records ++ more)
    ≡ record_lines (word_of kind) records ++ flat_map line_text more
text_in kind records more =
    flat_map-append line_text (lines_in kind records) more
    ∙ ap (λ text. text ++ flat_map line_text more)
    (flat_map-map line_text (RecordLine kind) records)

text_of_tables : (amx : Amx) (more : List Line)
    → flat_map line_text (lines_in Public amx.publics ++ (lines_in Native amx.natives
    ++ (lines_in Library amx.libraries ++ (lines_in Variable amx.variables
    ++ (lines_in Tag amx.tags ++ more)))))
    ≡ table_lines amx ++ flat_map line_text more
text_of_tables amx more =
    let publics = record_lines (word_of Public) amx.publics in
    let natives = record_lines (word_of Native) amx.natives in
    let libraries = record_lines (word_of Library) amx.libraries in
    let variables = record_lines (word_of Variable) amx.variables in
    let tags = record_lines (word_of Tag) amx.tags in
    let rest = flat_map line_text more in
    text_in Public amx.publics _
    ∙ ap (λ text. publics ++ text) (text_in Native amx.natives _
    ∙ ap (λ text. natives ++ text) (text_in Library amx.libraries _
    ∙ ap (λ text. libraries ++ text) (text_in Variable amx.variables _
    ∙ ap (λ text. variables ++ text) (text_in Tag amx.tags more)
    ∙ sym (append_assoc variables tags rest))
    ∙ sym (append_assoc libraries (variables ++ tags) rest))
    ∙ sym (append_assoc natives (libraries ++ (variables ++ tags)) rest))
    ∙ sym (append_assoc publics (natives ++ (libraries ++ (variables ++ tags))) rest)

-- ---- code

pub drop_over : {X : Type 0} (xs ys : List X) (n : ℕ) → drop (length xs + n) (xs ++ ys) ≡ drop n ys
drop_over [] ys n = ap (λ m. drop m ys) (omega arith)
drop_over (x ∷ xs) ys n =
    let next : suc (length xs) + n ≡ suc (length xs + n) = omega arith in
    ap (λ m. drop m (x ∷ (xs ++ ys))) next ∙ drop_over xs ys n

pub take_over : {X : Type 0} (xs ys : List X) → take (length xs) (xs ++ ys) ≡ xs
take_over [] ys = refl
take_over (x ∷ xs) ys = ap (λ l. x ∷ l) (take_over xs ys)

-- all but the first
behind_first : {X : Type 0} (xs ys : List X) → take (length xs - 1) (drop 1 (xs ++ ys)) ≡ drop 1 xs
behind_first [] ys = refl
behind_first (x ∷ xs) ys =
    let size : suc (length xs) - 1 ≡ length xs = omega arith in
    ap (λ m. take m (xs ++ ys)) size ∙ take_over xs ys

operands_are : (code before : List ℤ) (it : Written) (rest : List ℤ) (at : ℕ)
    → code ≡ before ++ (cells_of it ++ rest) → at ≡ 4 * length before
    → take (length (cells_of it) - 1) (drop (at / 4 + 1) code) ≡ drop 1 (cells_of it)
operands_are code before it rest at e h =
    let place : at / 4 + 1 ≡ length before + 1 = omega (arith, h) in
    ap (λ n. take (length (cells_of it) - 1) (drop n code)) place
    ∙ ap (λ cells. take (length (cells_of it) - 1) (drop (length before + 1) cells)) e
    ∙ ap (take (length (cells_of it) - 1)) (drop_over before (cells_of it ++ rest) 1)
    ∙ behind_first (cells_of it) rest

text_at : (code before : List ℤ) (its : List Written) (at : ℕ)
    → code ≡ before ++ flat_map cells_of its → at ≡ 4 * length before
    → flat_map line_text (lines_at at its) ≡ flat_map (line_of code) (places at its)
text_at code before [] at e h = refl
text_at code before (it ∷ its) at e h =
    let cells = cells_of it in
    let operands = operands_are code before it (flat_map cells_of its) at e h in
    let others =
    text_at code (before ++ cells) its (at + 4 * length cells)
    (e ∙ sym (append_assoc before cells (flat_map cells_of its)))
    (omega (arith, h, length-append before cells)) in
    ap (λ row. instruction_line at (number_of it.op) row
    ++ flat_map line_text (lines_at (at + 4 * length cells) its)) (sym operands)
    ∙ ap (λ text. instruction_line at (number_of it.op)
    (take (length cells - 1) (drop (at / 4 + 1) code)) ++ text) others

text_of_code : (its : List Written) (code : List ℤ) → IsCodeOf its code
    → flat_map line_text (lines_at 0 its) ≡ code_lines code
text_of_code its code h =
    text_at code [] its 0 (sym h.cells) refl ∙ ap (flat_map (line_of code)) (sym h.placed)

-- ---- data

text_of_rows : (at passed : ℕ) (cells : List ℤ)
    → flat_map line_text (rows_from at passed cells) ≡ data_from at passed cells
text_of_rows at passed [] = refl
text_of_rows at (suc passed) (cell ∷ cells) = text_of_rows (at + 4) passed cells
text_of_rows at zero (cell ∷ cells) =
    ap (λ text. line_text (CellsLine at (take WIDTH (cell ∷ cells))) ++ text)
    (text_of_rows (at + 4) (WIDTH - 1) cells)

-- ---- all

text_of_data : (store : List ℤ)
    → flat_map line_text (lines_of_data store) ≡ data_mark ++ (data_from 0 0 store ++ end_mark)
text_of_data store =
    ap (λ text. data_mark ++ text)
    (flat_map-append line_text (rows_from 0 0 store) (EndLine ∷ [])
    ∙ ap (λ text. text ++ end_mark) (text_of_rows 0 0 store))

text_of_cells : (its : List Written) (code store : List ℤ) → IsCodeOf its code
    → flat_map line_text (lines_of_cells its store)
    ≡ code_mark ++ (code_lines code ++ (data_mark ++ (data_from 0 0 store ++ end_mark)))
text_of_cells its code store h =
    ap (λ text. code_mark ++ text)
    (flat_map-append line_text (lines_at 0 its) (lines_of_data store)
    ∙ ap (λ text. text ++ flat_map line_text (lines_of_data store)) (text_of_code its code h)
    ∙ ap (λ text. code_lines code ++ text) (text_of_data store))

-- the lines of a file are its listing
pub text_of_lines : (amx : Amx) (its : List Written) → IsCodeOf its amx.code
    → flat_map line_text (lines_of amx its) ≡ listing amx
text_of_lines amx its h =
    ap (λ text. header_text (header_of amx) ++ text)
    (text_of_tables amx (lines_of_cells its amx.store)
    ∙ ap (λ text. table_lines amx ++ text) (text_of_cells its amx.code amx.store h))
