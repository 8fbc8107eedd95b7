-- Lines from a header to the end without a fault of their addresses and counts: the text that they
-- are is listed with the file that they say.
use Rattle.std.proofs.Common.{◌≡◌, ◌+◌, ◌-◌, ◌*◌, ◌%◌, ◌<◌, ◌≤◌, ◌^◌, ℕ, zero, suc, ℤ, Bool, true}
use Rattle.std.proofs.Common.{false, ◌==◌, List, [], ◌∷◌, ◌++◌, None, Some, Option, All, length}
use Rattle.std.proofs.Common.{take, drop, refl, sym, ap, ap₂, subst, ◌∙◌, arith, append-nil}
use Rattle.std.proofs.Common.{FitsSigned, w32, eqb-true, take-append-drop}
use Rattle.std.specs.List.{flat_map}
use Rattle.std.specs.Prelude.{if◌then◌else◌}
use Rattle.std.proofs.lemmas.Bool.{and_parts, and_from}
use Rattle.std.proofs.lemmas.List.Elements.{All-nil, All-cons, All-head, All-tail, All-append}
use Rattle.pawn_base.specs.Cells.{AreCells}
use Rattle.amx_ops.specs.declared.amx.Amx.{Amx}
use Rattle.amx_ops.specs.declared.amx.Record.{Record}
use Rattle.amx_ops.specs.Instructions.{Placed}
use Rattle.amx_ops.specs.Written.{Written, IsCodeOf, cells_of, places, read_as}
use Rattle.amx_ops.proofs.WrittenLaws.{code_is_instructions}
use Rattle.amx_format.specs.Layout.{all_records}
use Rattle.amx_text.specs.declared.fault.AsmFault.{AsmFault}
use Rattle.amx_text.specs.declared.fault.AsmFault.TheVariants as asm
use Rattle.amx_text.specs.declared.kind.Kind.{Kind}
use Rattle.amx_text.specs.declared.kind.Kind.TheVariants.{Public, Native, Library, Variable, Tag}
use Rattle.amx_text.specs.declared.listing.TheConstants.{WIDTH}
use Rattle.amx_text.specs.Lines.{Header}
use Rattle.amx_text.specs.Listing.{header_of}
use Rattle.amx_text.specs.Forms.{Line, HeaderLine, RecordLine, CodeLine, InstructionLine, DataLine}
use Rattle.amx_text.specs.Forms.{CellsLine, EndLine, line_text, Fits, HeaderFits, RecordFits}
use Rattle.amx_text.specs.Texts.{are_in_order, AreLines}
use Rattle.amx_text.specs.Faults.{code_cells, store_cells, code_in, store_in, amx_of, is_placed}
use Rattle.amx_text.specs.Faults.{address_fault, count_fault, number_where, is_data, is_end}
use Rattle.amx_text.specs.Listed.{FieldsFit, PlacesFit, IsListed}
use Rattle.amx_text.proofs.LinesOf.{lines_in, lines_at, rows_from, lines_of_data, lines_of_cells}
use Rattle.amx_text.proofs.LinesOf.{lines_behind, lines_of, text_of_lines}
use Rattle.amx_text.proofs.SaidLaws.{code_of_lines, store_of_lines, amx_of_lines}
use Rattle.amx_text.proofs.OrderLaws.{all_front, all_behind}
use Rattle.amx_text.proofs.PlacedLaws.{is_placed_at, are_placed_at, placed_by, one_more}
use Rattle.amx_text.proofs.WholeLaws.{Tail}
use Rattle.amx_text.proofs.TableLines.{Parts, parts_of}

-- ---- addresses without a fault

address_by : (b : Bool) (others : Option AsmFault) (fault : AsmFault)
    → (if b then others else Some fault) ≡ None → (b ≡ true) × (others ≡ None)
address_by true others fault e = (refl, e)
address_by false others fault e = absurd (let no : ⊥ = cc in no)

pub addresses_placed : (before lines : List Line) → address_fault before lines ≡ None
    → are_placed_at (length (code_in before)) (length (store_in before)) lines ≡ true
addresses_placed before [] h = refl
addresses_placed before (line ∷ lines) h =
    let both =
    address_by (is_placed before line) (address_fault (before ++ (line ∷ [])) lines)
    (asm.Address (length before + 1)) h in
    and_from (is_placed_at (length (code_in before)) (length (store_in before)) line) _
    (sym (placed_by before line) ∙ both.0)
    (ap₂ (λ c s. are_placed_at c s lines) (one_more code_cells before line)
    (one_more store_cells before line)
    ∙ addresses_placed (before ++ (line ∷ [])) lines both.1)

pub counted : (a b : Bool) (x y : AsmFault)
    → (if a then (if b then None else Some x) else Some y) ≡ None → (a ≡ true) × (b ≡ true)
counted true true x y e = (refl, refl)
counted true false x y e = absurd (let no : ⊥ = cc in no)
counted false b x y e = absurd (let no : ⊥ = cc in no)

-- the header counts the cells of its lines
pub header_counts : (it : Header) (lines : List Line) → count_fault it lines ≡ None
    → (length (code_in lines) ≡ it.code) × (length (store_in lines) ≡ it.store)
header_counts it lines e =
    let both =
    counted (length (code_in lines) == it.code) (length (store_in lines) == it.store)
    (asm.Count (number_where is_end lines)) (asm.Count (number_where is_data lines)) e in (
      eqb-true (length (code_in lines)) it.code both.0,
      eqb-true (length (store_in lines)) it.store both.1,
    )

-- ---- fields of the lines

records_fit : (kind : Kind) (records : List Record) → All Fits (lines_in kind records)
    → All RecordFits records
records_fit kind [] h = All-nil RecordFits
records_fit kind (it ∷ records) h =
    All-cons RecordFits it records (All-head Fits (RecordLine kind it) (lines_in kind records) h)
    (records_fit kind records (All-tail Fits (RecordLine kind it) (lines_in kind records) h))

record CodeFits (at : ℕ) (its : List Written) : Type 0 where
  cells : AreCells (flat_map cells_of its)
  places : All (λ (it : Placed). it.at < 2 ^ 32) (places at its)

code_fits : (at : ℕ) (its : List Written) → All Fits (lines_at at its) → CodeFits at its
code_fits at [] h = record {
  cells = All-nil (FitsSigned w32);
  places = All-nil (λ (it : Placed). it.at < 2 ^ 32);
}
code_fits at (it ∷ its) h =
    let next = at + 4 * length (cells_of it) in
    let first = All-head Fits (InstructionLine at it) (lines_at next its) h in
    let others = code_fits next its (All-tail Fits (InstructionLine at it) (lines_at next its) h) in
    record {
      cells =
          All-append (FitsSigned w32) (cells_of it) (flat_map cells_of its) first.cells
          others.cells;
      places =
          All-cons (λ (it : Placed). it.at < 2 ^ 32) (record { at = at; instr = read_as it })
          (places next its) first.address others.places;
    }

-- rows begin at multiples of their size, so none ends beyond the last address
rows_end : (at passed : ℕ) (cells : List ℤ) → (at + 4 * passed) % (4 * WIDTH) ≡ 0
    → at + 4 * passed ≤ 2 ^ 32 → All Fits (rows_from at passed cells)
    → at + 4 * length cells ≤ 2 ^ 32
rows_end at passed [] m h f = omega (arith, h)
rows_end at (suc passed) (cell ∷ cells) m h f =
    let next : at + 4 + 4 * passed ≡ at + 4 * suc passed = omega arith in
    omega (
      arith,
      rows_end (at + 4) passed cells (ap (λ n. n % (4 * WIDTH)) next ∙ m) (omega (arith, h)) f,
    )
rows_end at zero (cell ∷ cells) m h f =
    let first =
    All-head Fits (CellsLine at (take WIDTH (cell ∷ cells))) (rows_from (at + 4) (WIDTH - 1) cells)
    f in
    let address = first.address in
    omega (
      arith,
      rows_end (at + 4) (WIDTH - 1) cells (omega (arith, m)) (omega (arith, m, address))
          (All-tail Fits (CellsLine at (take WIDTH (cell ∷ cells)))
          (rows_from (at + 4) (WIDTH - 1) cells) f),
    )

rows_fit : (at passed : ℕ) (cells : List ℤ) → All Fits (rows_from at passed cells)
    → AreCells (drop passed cells)
rows_fit at zero [] f = All-nil (FitsSigned w32)
rows_fit at (suc passed) [] f = All-nil (FitsSigned w32)
rows_fit at (suc passed) (cell ∷ cells) f = rows_fit (at + 4) passed cells f
rows_fit at zero (cell ∷ cells) f =
    let row : List ℤ = take WIDTH (cell ∷ cells) in
    let first = All-head Fits (CellsLine at row) (rows_from (at + 4) (WIDTH - 1) cells) f in
    subst AreCells (take-append-drop WIDTH (cell ∷ cells))
    (All-append (FitsSigned w32) row (drop (WIDTH - 1) cells) first.fit
    (rows_fit (at + 4) (WIDTH - 1) cells
    (All-tail Fits (CellsLine at row) (rows_from (at + 4) (WIDTH - 1) cells) f)))

-- ---- a file and its lines

module _ (amx : Amx) (its : List Written) (fits : All Fits (lines_behind amx its)) where
  natives_on : All Fits (lines_in Native amx.natives ++ (lines_in Library amx.libraries
      ++ (lines_in Variable amx.variables ++ (lines_in Tag amx.tags
      ++ lines_of_cells its amx.store))))
  natives_on = all_behind Fits (lines_in Public amx.publics) _ fits

  libraries_on : All Fits (lines_in Library amx.libraries ++ (lines_in Variable amx.variables
      ++ (lines_in Tag amx.tags ++ lines_of_cells its amx.store)))
  libraries_on = all_behind Fits (lines_in Native amx.natives) _ natives_on

  variables_on : All Fits (lines_in Variable amx.variables ++ (lines_in Tag amx.tags
      ++ lines_of_cells its amx.store))
  variables_on = all_behind Fits (lines_in Library amx.libraries) _ libraries_on

  tags_on : All Fits (lines_in Tag amx.tags ++ lines_of_cells its amx.store)
  tags_on = all_behind Fits (lines_in Variable amx.variables) _ variables_on

  code_on : All Fits (lines_at 0 its ++ lines_of_data amx.store)
  code_on =
      All-tail Fits CodeLine _
      (all_behind Fits (lines_in Tag amx.tags) (lines_of_cells its amx.store) tags_on)

  store_on : All Fits (rows_from 0 0 amx.store)
  store_on =
      all_front Fits (rows_from 0 0 amx.store) (EndLine ∷ [])
      (All-tail Fits DataLine _
      (all_behind Fits (lines_at 0 its) (lines_of_data amx.store) code_on))

  records_on : All RecordFits (all_records amx)
  records_on =
      All-append RecordFits amx.publics _
      (records_fit Public amx.publics (all_front Fits (lines_in Public amx.publics) _ fits))
      (All-append RecordFits amx.natives _
      (records_fit Native amx.natives (all_front Fits (lines_in Native amx.natives) _ natives_on))
      (All-append RecordFits amx.libraries _
      (records_fit Library amx.libraries
      (all_front Fits (lines_in Library amx.libraries) _ libraries_on))
      (All-append RecordFits amx.variables _
      (records_fit Variable amx.variables
      (all_front Fits (lines_in Variable amx.variables) _ variables_on))
      (records_fit Tag amx.tags
      (all_front Fits (lines_in Tag amx.tags) (lines_of_cells its amx.store) tags_on)))))

  code_fields : CodeFits 0 its
  code_fields =
      code_fits 0 its (all_front Fits (lines_at 0 its) (lines_of_data amx.store) code_on)

  fields_fit : HeaderFits (header_of amx) → flat_map cells_of its ≡ amx.code → FieldsFit amx
  fields_fit header code = record {
    header = header;
    records = records_on;
    code = subst AreCells code code_fields.cells;
    store = rows_fit 0 0 amx.store store_on;
  }

  places_fit : IsCodeOf its amx.code → PlacesFit amx
  places_fit code = record {
    code =
        subst (λ list. All (λ (it : Placed). it.at < 2 ^ 32) list) (sym code.placed)
        code_fields.places;
    store = omega (arith, rows_end 0 0 amx.store refl (omega arith) store_on);
  }

-- ---- a text

-- the file of such parts
abbrev pub file_by : Header → (lines : List Line) → Parts lines → Amx
file_by it lines parts = record {
  flags = it.flags;
  version = it.version;
  code = flat_map cells_of parts.its;
  store = parts.store;
  room = it.room;
  entry = it.entry;
  publics = parts.publics;
  natives = parts.natives;
  libraries = parts.libraries;
  variables = parts.variables;
  tags = parts.tags;
}

-- lines that are those of a file
record OfFile (it : Header) (others : List Line) : Type 0 where
  amx : Amx
  its : List Written
  code : IsCodeOf its amx.code
  header : header_of amx ≡ it
  is : others ≡ lines_behind amx its

of_file : (it : Header) (others : List Line) → Tail (HeaderLine it) 0 0 others
    → count_fault it (HeaderLine it ∷ others) ≡ None → OfFile it others
of_file it others tail counts =
    let parts = parts_of it others tail in
    let amx = file_by it others parts in
    let lines : HeaderLine it ∷ others ≡ HeaderLine it ∷ lines_behind amx parts.its =
    ap (λ list. HeaderLine it ∷ list) parts.is in
    let both = header_counts it (HeaderLine it ∷ others) counts in
    let code : length amx.code ≡ it.code =
    sym (ap length (ap code_in lines ∙ code_of_lines amx parts.its)) ∙ both.0 in
    let store : length amx.store ≡ it.store =
    sym (ap length (ap store_in lines ∙ store_of_lines amx parts.its)) ∙ both.1 in
    record {
      amx = amx;
      its = parts.its;
      code = code_is_instructions.read parts.its parts.written;
      header = λ i. record it { code = code i; store = store i };
      is = parts.is;
    }

-- such lines are the listing of the file that they say
pub listed_of_lines : (text : List ℕ) (it : Header) (others : List Line)
    → AreLines text (HeaderLine it ∷ others) → address_fault [] (HeaderLine it ∷ others) ≡ None
    → count_fault it (HeaderLine it ∷ others) ≡ None
    → IsListed (amx_of it (HeaderLine it ∷ others)) text
listed_of_lines text it others are addresses counts =
    let placed = addresses_placed [] (HeaderLine it ∷ others) addresses in
    let order = and_parts true (are_in_order (Some (HeaderLine it)) others) are.whole.order in
    let fits = All-tail Fits (HeaderLine it) others are.whole.fit in
    let file =
    of_file it others (record {
      order = order.1;
      ends = are.ends;
      fits = fits;
      placed = (and_parts true (are_placed_at 0 0 others) placed).1;
    }) counts in
    let amx = file.amx in
    let header = file.header in
    let is = file.is in
    let lines : HeaderLine it ∷ others ≡ lines_of amx file.its =
    λ i. HeaderLine (sym header i) ∷ is i in
    let same : amx_of it (HeaderLine it ∷ others) ≡ amx =
    ap₂ amx_of (sym header) lines ∙ amx_of_lines amx file.its file.code in
    let behind : All Fits (lines_behind amx file.its) = subst (λ list. All Fits list) is fits in
    subst (λ it. IsListed it text) (sym same) (record {
      fields =
          fields_fit amx file.its behind
          (subst HeaderFits (sym header) (All-head Fits (HeaderLine it) others are.whole.fit))
          file.code.cells;
      places = places_fit amx file.its behind file.code;
      its = file.its;
      code = file.code;
      is =
          are.whole.is ∙ append-nil (flat_map line_text (HeaderLine it ∷ others))
          ∙ ap (flat_map line_text) lines ∙ text_of_lines amx file.its file.code;
    })
