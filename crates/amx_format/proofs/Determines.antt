-- Bytes are the file of one Amx at most, and have one fault at most that is first.
use Rattle.std.proofs.Common.{◌≡◌, ◌≢◌, inl, inr, ◌+◌, ◌++◌, ℕ, ℤ, List, [], ◌∷◌, Bool, true, false}
use Rattle.std.proofs.Common.{length, take, drop, refl, sym, ap, subst, ◌∙◌, arith}
use Rattle.std.specs.Prelude.{Result, Ok, Err}
use Rattle.std.proofs.lemmas.List.{drop_at, length-append, take_at}
use Rattle.amx_compact.specs.declared.fault.CompactFault.{CompactFault}
use Rattle.amx_compact.specs.declared.fault.CompactFault.TheVariants.{Memory as NoMemory}
use Rattle.amx_compact.proofs.ReadLemmas.{one_answer as one_row}
use Rattle.amx_ops.specs.declared.amx.Amx.{Amx}
use Rattle.amx_ops.specs.declared.amx.Record.{Record}
use Rattle.amx_format.specs.declared.header.Header.{Header}
use Rattle.amx_format.specs.declared.fault.FormatFault.{FormatFault}
use Rattle.amx_format.specs.declared.fault.FormatFault.TheVariants.{Memory}
use Rattle.amx_format.specs.Header.{header_of, is_compact, code_cells, store_cells}
use Rattle.amx_format.specs.Faults.{HasCellFault, IsFreeOfAll, IsFirstOf, of_cells, order, row_of}
use Rattle.amx_format.specs.File.{AFileIsOfOneAmx, AreCellsOf, HasCells, IsFile, Answers}
use Rattle.amx_format.specs.Sorts.{with_publics}
use Rattle.amx_format.specs.Written.{WhatIsWrittenIsRead}
use Rattle.amx_ops.proofs.Made.{amx_of}

unfoldable make : ℕ → ℕ → List ℤ → List ℤ → ℕ → ℤ → List Record → List Record → List Record
    → List Record → List Record → Amx
make flags version code store room entry publics natives libraries variables tags =
    amx_of flags version code store room entry publics natives libraries variables tags

made_same : (a b : Amx) → a.flags ≡ b.flags → a.version ≡ b.version → a.code ≡ b.code
    → a.store ≡ b.store → a.room ≡ b.room → a.entry ≡ b.entry
    → a.publics ≡ b.publics → a.natives ≡ b.natives → a.libraries ≡ b.libraries
    → a.variables ≡ b.variables → a.tags ≡ b.tags
    → make a.flags a.version a.code a.store a.room a.entry a.publics a.natives a.libraries
    a.variables a.tags
    ≡ make b.flags b.version b.code b.store b.room b.entry b.publics b.natives b.libraries
    b.variables b.tags
made_same a b flags version code store room entry publics natives libraries variables tags = cc

-- ---- the cells

cells_or_none : Result (List ℤ) CompactFault → List ℤ
cells_or_none (Ok cells) = cells
cells_or_none (Err fault) = []

cause_of : Result (List ℤ) CompactFault → CompactFault
cause_of (Ok cells) = NoMemory
cause_of (Err fault) = fault

-- a cell's fault other than want of memory
is_other : (fault : CompactFault) → of_cells fault ≢ Memory
    → (let answer : Result (List ℤ) CompactFault = Err fault in answer) ≢ Err NoMemory
unfolding cause_of
is_other fault h e = h (ap (λ r. of_cells (cause_of r)) e)

one_row_of : (compact : Bool) (bytes : List ℕ) (h : Header) (a b : List ℤ)
    → length a ≡ code_cells h + store_cells h → length b ≡ code_cells h + store_cells h
    → AreCellsOf compact bytes h a → AreCellsOf compact bytes h b → a ≡ b
unfolding cells_or_none
one_row_of false bytes h a b m n f g = f ∙ sym g
one_row_of true bytes h a b m n f g =
    ap cells_or_none (one_row (row_of bytes h) (code_cells h + store_cells h) (Ok a) (Ok b) (f, m)
    (g, n) (λ e. absurd (cc e)) (λ e. absurd (cc e)))

split_same : (a b c d : List ℤ) → length a ≡ length c → a ++ b ≡ c ++ d → (a ≡ c) × (b ≡ d)
split_same a b c d l e = (
  sym (take_at a b (length a) refl) ∙ ap (take (length a)) e ∙ take_at c d (length a) (sym l),
  sym (drop_at a b (length a) refl) ∙ ap (drop (length a)) e ∙ drop_at c d (length a) (sym l),
)

cells_same : (bytes : List ℕ) (a b c d : List ℤ) → HasCells bytes a b → HasCells bytes c d
    → (a ≡ c) × (b ≡ d)
cells_same bytes a b c d f g =
    split_same a b c d (f.code_length ∙ sym g.code_length)
    (one_row_of (is_compact (header_of bytes).flags) bytes (header_of bytes) (a ++ b) (c ++ d)
    (omega (arith, length-append a b, f.code_length, f.store_length))
    (omega (arith, length-append c d, g.code_length, g.store_length)) f.row g.row)

pub file_determines : AFileIsOfOneAmx
unfolding make
file_determines bytes a b f g =
    let cells = cells_same bytes a.code a.store b.code b.store f.cells g.cells in
    made_same a b (f.flags ∙ sym g.flags) (f.version ∙ sym g.version) cells.0 cells.1
    (f.room ∙ sym g.room)
    (f.entry ∙ sym g.entry) (f.publics ∙ sym g.publics) (f.natives ∙ sym g.natives)
    (f.libraries ∙ sym g.libraries) (f.variables ∙ sym g.variables)
    (f.tags ∙ sym g.tags)

-- ---- faults

no_cell_fault : (bytes : List ℕ) (amx : Amx) (fault : FormatFault) → IsFile bytes amx
    → fault ≢ Memory → ¬ HasCellFault bytes fault
no_cell_fault bytes amx fault f other has =
    let h = header_of bytes in
    let row : AreCellsOf true bytes h (amx.code ++ amx.store) =
    subst (λ b. AreCellsOf b bytes h (amx.code ++ amx.store)) has.compact f.cells.row in
    let long : length (amx.code ++ amx.store) ≡ code_cells h + store_cells h =
    omega (arith, length-append amx.code amx.store, f.cells.code_length, f.cells.store_length) in
    absurd (cc (one_row (row_of bytes h) (code_cells h + store_cells h) (Ok (amx.code ++ amx.store))
    (Err has.cause) (row, long) has.breaks
    (λ e. absurd (cc e)) (is_other has.cause (λ e. other (has.is ∙ e)))))

no_fault : (list : List FormatFault) (bytes : List ℕ) (amx : Amx) (fault : FormatFault)
    → IsFile bytes amx → IsFreeOfAll list bytes → fault ≢ Memory
    → ¬ IsFirstOf list bytes fault
no_fault [] bytes amx fault f free other (inl has) = no_cell_fault bytes amx fault f other has
no_fault [] bytes amx fault f free other (inr e) = other e
no_fault (it ∷ later) bytes amx fault f free other (inl found) = found.0 free.0
no_fault (it ∷ later) bytes amx fault f free other (inr behind) =
    no_fault later bytes amx fault f free.1 other behind.1

one_cell_fault : (bytes : List ℕ) (a b : FormatFault) → HasCellFault bytes a → HasCellFault bytes b
    → a ≢ Memory → b ≢ Memory → a ≡ b
unfolding cause_of
one_cell_fault bytes a b f g m n =
    let h = header_of bytes in
    f.is ∙ ap (λ r. of_cells (cause_of r))
    (one_row (row_of bytes h) (code_cells h + store_cells h) (Err f.cause)
    (Err g.cause) f.breaks g.breaks
    (is_other f.cause (λ e. m (f.is ∙ e))) (is_other g.cause (λ e. n (g.is ∙ e)))) ∙ sym g.is

one_fault : (list : List FormatFault) (bytes : List ℕ) (a b : FormatFault) → IsFirstOf list bytes a
    → IsFirstOf list bytes b → a ≢ Memory → b ≢ Memory → a ≡ b
one_fault [] bytes a b (inl f) (inl g) m n = one_cell_fault bytes a b f g m n
one_fault [] bytes a b (inr e) g m n = absurd (m e)
one_fault [] bytes a b (inl f) (inr e) m n = absurd (n e)
one_fault (it ∷ later) bytes a b (inl f) (inl g) m n = f.1 ∙ sym g.1
one_fault (it ∷ later) bytes a b (inl f) (inr g) m n = absurd (f.0 g.0)
one_fault (it ∷ later) bytes a b (inr f) (inl g) m n = absurd (g.0 f.0)
one_fault (it ∷ later) bytes a b (inr f) (inr g) m n = one_fault later bytes a b f.1 g.1 m n

pub one_answer : (bytes : List ℕ) (x y : Result Amx FormatFault) → Answers bytes x → Answers bytes y
    → y ≢ Err Memory → x ≢ Err Memory → x ≡ y
one_answer bytes (Ok a) (Ok b) f g m n = ap Ok (file_determines bytes a b f g)
one_answer bytes (Ok a) (Err b) f g m n =
    absurd (no_fault order bytes a b f f.sound (λ e. m (ap Err e)) g)
one_answer bytes (Err a) (Ok b) f g m n =
    absurd (no_fault order bytes b a g g.sound (λ e. n (ap Err e)) f)
one_answer bytes (Err a) (Err b) f g m n =
    ap Err (one_fault order bytes a b f g (λ e. n (ap Err e)) (λ e. m (ap Err e)))

pub read_back : WhatIsWrittenIsRead
read_back encoding amx bytes it answer a n =
    one_answer bytes answer (Ok (with_publics amx it.publics)) a it.file (λ e. absurd (cc e)) n
