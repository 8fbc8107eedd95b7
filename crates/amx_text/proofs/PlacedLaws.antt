-- The lines of a file have the addresses that they should have, and as many cells as the header
-- says.
use Rattle.std.proofs.Common.{◌≡◌, ◌+◌, ◌-◌, ◌*◌, ◌≤◌, ℕ, zero, suc, ℤ, Bool, true, ◌&&◌, ◌==◌}
use Rattle.std.proofs.Common.{List, [], ◌∷◌, ◌++◌, None, Some, length, take, refl, sym, ap, ap₂}
use Rattle.std.proofs.Common.{◌∙◌, append-nil, arith, eq-eqb, length-append, length-take}
use Rattle.std.specs.List.{flat_map}
use Rattle.std.specs.Prelude.{if◌then◌else◌, IsTrue, option_map}
use Rattle.std.specs.Option.{option_or}
use Rattle.std.proofs.lemmas.Bool.{and_parts, and_from}
use Rattle.std.proofs.lemmas.List.Concat.{flat_map-append}
use Rattle.amx_ops.specs.declared.amx.Amx.{Amx}
use Rattle.amx_ops.specs.declared.amx.Record.{Record}
use Rattle.amx_ops.specs.Valid.{Fault}
use Rattle.amx_ops.specs.Written.{Written, IsCodeOf, cells_of}
use Rattle.amx_verify.specs.Verdict.{fault_in}
use Rattle.amx_text.specs.declared.fault.AsmFault.{AsmFault}
use Rattle.amx_text.specs.declared.fault.AsmFault.TheVariants as asm
use Rattle.amx_text.specs.declared.kind.Kind.{Kind}
use Rattle.amx_text.specs.declared.kind.Kind.TheVariants.{Public, Native, Library, Variable, Tag}
use Rattle.amx_text.specs.declared.listing.TheConstants.{WIDTH}
use Rattle.amx_text.specs.Listing.{header_of}
use Rattle.amx_text.specs.Forms.{Line, HeaderLine, RecordLine, CodeLine, InstructionLine, DataLine}
use Rattle.amx_text.specs.Forms.{CellsLine, EndLine}
use Rattle.amx_text.specs.Faults.{code_cells, store_cells, code_in, store_in, is_within}
use Rattle.amx_text.specs.Faults.{limit_fault, is_placed, address_fault, is_data, is_end}
use Rattle.amx_text.specs.Faults.{number_where, count_fault, fault_line, invalid_fault, fault_of}
use Rattle.amx_text.proofs.LinesOf.{lines_in, lines_at, rows_from, lines_of_data, lines_of_cells}
use Rattle.amx_text.proofs.LinesOf.{lines_of}
use Rattle.amx_text.proofs.SaidLaws.{code_of_lines, store_of_lines, amx_of_lines}

-- ---- addresses

-- a line that has its address behind so many cells of code and of data
abbrev pub is_placed_at : ℕ → ℕ → Line → Bool
is_placed_at code store (InstructionLine at it) = at == 4 * code
is_placed_at code store (CellsLine at cells) = at == 4 * store
is_placed_at code store line = true

-- the same of some lines
abbrev pub are_placed_at : ℕ → ℕ → List Line → Bool
are_placed_at code store [] = true
are_placed_at code store (line ∷ lines) =
    is_placed_at code store line
    && are_placed_at (code + length (code_cells line)) (store + length (store_cells line)) lines

-- of the lines before a line its address tells their cells alone
pub placed_by : (before : List Line) (line : Line)
    → is_placed before line ≡ is_placed_at (length (code_in before)) (length (store_in before)) line
placed_by before (HeaderLine it) = refl
placed_by before (RecordLine kind it) = refl
placed_by before CodeLine = refl
placed_by before (InstructionLine at it) = refl
placed_by before DataLine = refl
placed_by before (CellsLine at cells) = refl
placed_by before EndLine = refl

pub one_more : (f : Line → List ℤ) (before : List Line) (line : Line)
    → length (flat_map f before) + length (f line) ≡ length (flat_map f (before ++ (line ∷ [])))
one_more f before line =
    sym (length-append (flat_map f before) (f line))
    ∙ ap length (ap (λ cells. flat_map f before ++ cells) (sym (append-nil (f line)))
    ∙ sym (flat_map-append f before (line ∷ [])))

-- lines with their addresses have no fault of them
pub no_address_fault : (before lines : List Line)
    → are_placed_at (length (code_in before)) (length (store_in before)) lines ≡ true
    → address_fault before lines ≡ None
no_address_fault before [] h = refl
no_address_fault before (line ∷ lines) h =
    let both =
    and_parts (is_placed_at (length (code_in before)) (length (store_in before)) line)
    (are_placed_at (length (code_in before) + length (code_cells line))
    (length (store_in before) + length (store_cells line)) lines) h in
    let first : is_placed before line ≡ true = placed_by before line ∙ both.0 in
    let others =
    no_address_fault (before ++ (line ∷ [])) lines
    (sym (ap₂ (λ c s. are_placed_at c s lines) (one_more code_cells before line)
    (one_more store_cells before line)) ∙ both.1) in
    ap (λ b. if b then address_fault (before ++ (line ∷ [])) lines
    else Some (asm.Address (length before + 1))) first ∙ others

-- ---- of a file

placed_in : (code store : ℕ) (kind : Kind) (records : List Record) (more : List Line)
    → are_placed_at code store more ≡ true
    → are_placed_at code store (lines_in kind records ++ more) ≡ true
placed_in code store kind [] more h = h
placed_in code store kind (it ∷ records) more h =
    let c : code + 0 ≡ code = omega arith in
    let s : store + 0 ≡ store = omega arith in
    ap₂ (λ c s. are_placed_at c s (lines_in kind records ++ more)) c s
    ∙ placed_in code store kind records more h

-- whatever the cells before them
abbrev Anywhere : List Line → Type 0
Anywhere more = (code store : ℕ) → are_placed_at code store more ≡ true

placed_at : (at code store : ℕ) (its : List Written) (more : List Line) → at ≡ 4 * code
    → ((code : ℕ) → are_placed_at code store more ≡ true)
    → are_placed_at code store (lines_at at its ++ more) ≡ true
placed_at at code store [] more e h = h code
placed_at at code store (it ∷ its) more e h =
    let size : ℕ = length (cells_of it) in
    let s : store + 0 ≡ store = omega arith in
    and_from (at == 4 * code) _ (eq-eqb at (4 * code) e)
    (ap (λ s. are_placed_at (code + size) s (lines_at (at + 4 * size) its ++ more)) s
    ∙ placed_at (at + 4 * size) (code + size) store its more (omega (arith, e)) h)

-- behind the cells that are passed over
placed_from : (at passed code store : ℕ) (cells : List ℤ) (more : List Line)
    → (passed ≤ length cells → at + 4 * passed ≡ 4 * store) → Anywhere more
    → are_placed_at code store (rows_from at passed cells ++ more) ≡ true
placed_from at passed code store [] more e h = h code store
placed_from at (suc passed) code store (cell ∷ cells) more e h =
    placed_from (at + 4) passed code store cells more (λ k. omega (arith, e (omega (arith, k)))) h
placed_from at zero code store (cell ∷ cells) more e h =
    let row : List ℤ = take WIDTH (cell ∷ cells) in
    let here : at ≡ 4 * store = omega (arith, e (omega arith)) in
    let size = length-take WIDTH (cell ∷ cells) in
    and_from (at == 4 * store) _ (eq-eqb at (4 * store) here)
    (placed_from (at + 4) (WIDTH - 1) (code + 0) (store + length row) cells more
    (λ k. omega (arith, k, here, size)) h)

placed_data : (code : ℕ) (store : List ℤ) → are_placed_at code 0 (lines_of_data store) ≡ true
placed_data code store =
    placed_from 0 0 (code + 0) 0 store (EndLine ∷ []) (λ k. refl) (λ c s. refl)

placed_lines : (amx : Amx) (its : List Written) → are_placed_at 0 0 (lines_of amx its) ≡ true
placed_lines amx its =
    placed_in 0 0 Public amx.publics _ (placed_in 0 0 Native amx.natives _
    (placed_in 0 0 Library amx.libraries _ (placed_in 0 0 Variable amx.variables _
    (placed_in 0 0 Tag amx.tags (lines_of_cells its amx.store)
    (placed_at 0 0 0 its (lines_of_data amx.store) refl (λ c. placed_data c amx.store))))))

-- ---- no fault

module _ (amx : Amx) (its : List Written) (h : IsCodeOf its amx.code) where
  addresses_are : address_fault [] (lines_of amx its) ≡ None
  addresses_are = no_address_fault [] (lines_of amx its) (placed_lines amx its)

  counts_by : (a b : Bool) (x y : AsmFault) → a ≡ true → b ≡ true
      → (if a then (if b then None else Some x) else Some y) ≡ None
  counts_by a b x y e f = rw (e, f) refl

  counts_are : count_fault (header_of amx) (lines_of amx its) ≡ None
  counts_are =
      counts_by (length (code_in (lines_of amx its)) == length amx.code)
      (length (store_in (lines_of amx its)) == length amx.store)
      (asm.Count (number_where is_end (lines_of amx its)))
      (asm.Count (number_where is_data (lines_of amx its)))
      (eq-eqb (length (code_in (lines_of amx its))) (length amx.code)
      (ap length (code_of_lines amx its ∙ h.cells)))
      (eq-eqb (length (store_in (lines_of amx its))) (length amx.store)
      (ap length (store_of_lines amx its)))

  -- the lines of a valid file within the limits have no fault
  pub no_fault : IsTrue (is_within (header_of amx) amx) → fault_in amx ≡ None
      → fault_of (header_of amx) (lines_of amx its) ≡ None
  no_fault within valid =
      let same = amx_of_lines amx its h in
      let lines = lines_of amx its in
      let limits : limit_fault (header_of amx) lines ≡ None =
      ap (λ it. if is_within (header_of amx) it then None else Some asm.Limit) same
      ∙ ap (λ b. if b then None else Some asm.Limit) within in
      let code : invalid_fault (header_of amx) lines ≡ None =
      ap (λ it. option_map (λ (fault : Fault). asm.Invalid (fault_line lines fault)) it)
      (ap fault_in same ∙ valid) in
      ap (λ first. option_or first (option_or (address_fault [] lines)
      (option_or (count_fault (header_of amx) lines) (invalid_fault (header_of amx) lines)))) limits
      ∙ ap (λ first. option_or first (option_or (count_fault (header_of amx) lines)
      (invalid_fault (header_of amx) lines))) addresses_are
      ∙ ap (λ first. option_or first (invalid_fault (header_of amx) lines)) counts_are
      ∙ code
