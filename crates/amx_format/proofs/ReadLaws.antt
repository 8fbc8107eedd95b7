-- What a loop of the reader has read so far.
use Rattle.std.proofs.Common.{◌≡◌, ◌+◌, ◌-◌, ◌*◌, ◌<◌, ◌≤◌, ℕ, zero, suc, ℤ, List, [], ◌∷◌}
use Rattle.std.proofs.Common.{◌++◌, ◌/◌, false, length, refl, sym, ap, ap₂, subst}
use Rattle.std.proofs.Common.{◌∙◌, arith}
use Rattle.std.proofs.lemmas.List.{append_assoc, append-nil}
use Rattle.amx_ops.specs.declared.amx.Record.{Record}
use Rattle.amx_format.specs.Numbers.{cell_at, cells_at}
use Rattle.amx_format.specs.declared.header.Header.{Header}
use Rattle.amx_format.specs.Header.{header_of, is_compact, code_cells, store_cells, HasParts}
use Rattle.amx_format.specs.File.{AreCellsOf, HasCells}
use Rattle.amx_format.specs.Records.{record_at, records_at}

cells_at-suc : (bytes : List ℕ) (place n m : ℕ) → n ≡ suc m
    → cells_at bytes place n ≡ cell_at bytes place ∷ cells_at bytes (place + 4) m
cells_at-suc bytes place n m e = rw e refl

-- one cell more has been read
pub cells_step : (bytes : List ℕ) (place count i : ℕ) (row next all : List ℤ) → i < count
    → next ≡ row ++ cell_at bytes (place + 4 * i) ∷ []
    → row ++ cells_at bytes (place + 4 * i) (count - i) ≡ all
    → next ++ cells_at bytes (place + 4 * (i + 1)) (count - (i + 1)) ≡ all
cells_step bytes place count i row next all h e known =
    let rest : List ℤ = cells_at bytes (place + 4 * (i + 1)) (count - (i + 1)) in
    let cell = cell_at bytes (place + 4 * i) in
    let moved : cells_at bytes (place + 4 * i + 4) (count - (i + 1)) ≡ rest =
    ap (λ k. cells_at bytes k (count - (i + 1))) (omega arith) in
    let first : cells_at bytes (place + 4 * i) (count - i) ≡ cell ∷ rest =
    cells_at-suc bytes (place + 4 * i) (count - i) (count - (i + 1)) (omega arith)
    ∙ ap (λ (cs : List ℤ). cell ∷ cs) moved in
    ap (λ (cs : List ℤ). cs ++ rest) e ∙ append_assoc row (cell ∷ []) rest
    ∙ sym (ap (λ (cs : List ℤ). row ++ cs) first) ∙ known

-- all cells have been read
pub cells_done : (bytes : List ℕ) (place n i : ℕ) (row all : List ℤ) → n ≤ i
    → row ++ cells_at bytes place (n - i) ≡ all → row ≡ all
cells_done bytes place n i row all h known =
    let none : n - i ≡ 0 = omega arith in
    sym (ap (λ k. row ++ cells_at bytes place k) none ∙ append-nil row) ∙ known

records_at-suc : (bytes : List ℕ) (place n m : ℕ) → n ≡ suc m
    → records_at bytes place n ≡ record_at bytes place ∷ records_at bytes (place + 8) m
records_at-suc bytes place n m e = rw e refl

-- one record more has been read
pub records_step : (bytes : List ℕ) (place count i : ℕ) (found next all : List Record) (it : Record)
    → i < count
    → it ≡ record_at bytes (place + 8 * i) → next ≡ found ++ it ∷ []
    → found ++ records_at bytes (place + 8 * i) (count - i) ≡ all
    → next ++ records_at bytes (place + 8 * (i + 1)) (count - (i + 1)) ≡ all
records_step bytes place count i found next all it h is e known =
    let rest : List Record = records_at bytes (place + 8 * (i + 1)) (count - (i + 1)) in
    let moved : records_at bytes (place + 8 * i + 8) (count - (i + 1)) ≡ rest =
    ap (λ k. records_at bytes k (count - (i + 1))) (omega arith) in
    let first : records_at bytes (place + 8 * i) (count - i) ≡ it ∷ rest =
    records_at-suc bytes (place + 8 * i) (count - i) (count - (i + 1)) (omega arith)
    ∙ ap (λ (r : Record). r ∷ records_at bytes (place + 8 * i + 8) (count - (i + 1))) (sym is)
    ∙ ap (λ (rs : List Record). it ∷ rs) moved in
    ap (λ (rs : List Record). rs ++ rest) e ∙ append_assoc found (it ∷ []) rest
    ∙ sym (ap (λ (rs : List Record). found ++ rs) first) ∙ known

pub records_done : (bytes : List ℕ) (place n i : ℕ) (found all : List Record) → n ≤ i
    → found ++ records_at bytes place (n - i) ≡ all → found ≡ all
records_done bytes place n i found all h known =
    let none : n - i ≡ 0 = omega arith in
    sym (ap (λ k. found ++ records_at bytes place k) none ∙ append-nil found) ∙ known

length-cells_at : (bytes : List ℕ) (place n : ℕ) → length (cells_at bytes place n) ≡ n
length-cells_at bytes place zero = refl
length-cells_at bytes place (suc n) =
    let ih = length-cells_at bytes (place + 4) n in omega (arith, ih)

-- cells of which the first so many are looked at apart
cells_at-split : (bytes : List ℕ) (place n m : ℕ)
    → cells_at bytes place n ++ cells_at bytes (place + 4 * n) m ≡ cells_at bytes place (n + m)
cells_at-split bytes place zero m =
    ap (λ k. cells_at bytes k m) (omega arith) ∙ ap (cells_at bytes place) (omega arith)
cells_at-split bytes place (suc n) m =
    let moved : cells_at bytes (place + 4 * suc n) m ≡ cells_at bytes (place + 4 + 4 * n) m =
    ap (λ k. cells_at bytes k m) (omega arith) in
    ap (λ (cs : List ℤ). cell_at bytes place ∷ (cells_at bytes (place + 4) n ++ cs)) moved
    ∙ ap (λ (cs : List ℤ). cell_at bytes place ∷ cs) (cells_at-split bytes (place + 4) n m)
    ∙ sym (cells_at-suc bytes place (suc n + m) (n + m) (omega arith))

-- the plain cells of code and data
pub plain_cells : (bytes : List ℕ) (h : Header) (code store : List ℤ) → h ≡ header_of bytes
    → HasParts h → is_compact h.flags ≡ false
    → code ≡ cells_at bytes h.cod ((h.dat - h.cod) / 4)
    → store ≡ cells_at bytes h.dat ((h.hea - h.dat) / 4) → HasCells bytes code store
plain_cells bytes h code store e parts plain code_is store_is =
    let n : ℕ = code_cells h in
    let m : ℕ = store_cells h in
    let moved : cells_at bytes h.dat m ≡ cells_at bytes (h.cod + 4 * n) m =
    ap (λ k. cells_at bytes k m) (omega (arith, parts.code.rises, parts.code.whole)) in
    let row : code ++ store ≡ cells_at bytes h.cod (n + m) =
    ap₂ (λ (a b : List ℤ). a ++ b) code_is (store_is ∙ moved) ∙ cells_at-split bytes h.cod n m in
    let is_row : AreCellsOf (is_compact h.flags) bytes h (code ++ store) =
    subst (λ b. AreCellsOf b bytes h (code ++ store)) (sym plain) row in
    record {
      code_length = ap length code_is ∙ length-cells_at bytes h.cod n ∙ ap code_cells e;
      store_length = ap length store_is ∙ length-cells_at bytes h.dat m ∙ ap store_cells e;
      row =
          subst (λ (k : Header). AreCellsOf (is_compact k.flags) bytes k (code ++ store)) e is_row;
    }
