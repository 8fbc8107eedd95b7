-- Where the row of a number stands, and what is found there.
use denote.Ref.{Bor}
use Rattle.std.proofs.Common.{◌≡◌, ◌≢◌, get_or, ◌+◌, ◌-◌, ◌<◌, ◌≤◌, ℕ, zero, suc, ℤ, pos, List, []}
use Rattle.std.proofs.Common.{◌∷◌, Bool, true, false, cond, Option, None, Some, map, find, length}
use Rattle.std.proofs.Common.{slice_get, nat_le, refl, sym, ap, ◌∙◌, arith}
use Rattle.std.specs.List.{range_with_len}
use Rattle.std.proofs.lemmas.Bool.Decides.{Decides-int_eq, nat_tests}
use Rattle.std.proofs.lemmas.List.{length-map}
use Rattle.std.specs.Ordering.{int_eq}
use Rattle.amx_ops.specs.declared.op.Op.{Op}
use Rattle.amx_ops.specs.declared.table.Operand.{Operand}
use Rattle.amx_ops.specs.Table.{Row, table, row_by, rows_of, row_at, has_number}
use Rattle.pawn_cells.specs.Cells.{bits_of}

-- the place of the row with a number, if there is one
abbrev pub place : ℕ → ℕ
place n = cond (nat_le n 37) (n - 1) (cond (nat_le n 123) (n - 2) (cond (nat_le n 134) (n - 6) 129))

places : map (λ (row : Row). place row.number) table ≡ range_with_len 0 130
places = refl

counted : (f : Row → ℕ) (rows : List Row) (a n k : ℕ) (row : Row) → map f rows ≡ range_with_len a n
    → slice_get rows k ≡ Some row → f row ≡ a + k
counted f [] a n k row e h = absurd (let no : ⊥ = cc in no)
counted f (x ∷ rows) a zero k row e h = absurd (let no : ⊥ = cc in no)
counted f (x ∷ rows) a (suc n) zero row e h =
    let first : f x ≡ a = cc in
    let same : x ≡ row = cc in
    sym (ap f same) ∙ first ∙ omega arith
counted f (x ∷ rows) a (suc n) (suc k) row e h =
    let rest : map f rows ≡ range_with_len (a + 1) n = cc in
    counted f rows (a + 1) n k row rest h ∙ omega arith

pub place_is : (k : ℕ) (row : Row) → slice_get table k ≡ Some row → place row.number ≡ k
place_is k row e = counted (λ row. place row.number) table 0 130 k row places e ∙ omega arith

-- in each run of numbers
module _ (n k : ℕ) (row : Row) (e : slice_get table k ≡ Some row) (h : row.number ≡ n) where
  place_at : place n ≡ k
  place_at = ap place (sym h) ∙ place_is k row e

  pub in_first : n ≤ 37 → n - 1 ≡ k
  in_first high = let p = place_at in grind (arith, nat_tests)

  pub in_second : 38 ≤ n → n ≤ 123 → n - 2 ≡ k
  in_second low high = let p = place_at in grind (arith, nat_tests)

  pub in_third : 124 ≤ n → n ≤ 134 → n - 6 ≡ k
  in_third low high = let p = place_at in grind (arith, nat_tests)

  pub in_last : 135 ≤ n → 129 ≡ k
  in_last low = let p = place_at in grind (arith, nat_tests)

other_by : (a b : ℤ) (t : Bool) → int_eq a b ≡ t → a ≢ b → int_eq a b ≡ false
other_by a b true e h = absurd (h ((Decides-int_eq a b).0 e))
other_by a b false e h = e

int_eq-other : (a b : ℤ) → a ≢ b → int_eq a b ≡ false
int_eq-other a b h = other_by a b (int_eq a b) refl h

-- ---- the row that a number finds

-- a row, where it has the number
abbrev pub kept : ℤ → Option Row → Option Row
kept cell None = None
kept cell (Some row) = cond (has_number cell row) (Some row) None

-- a place before these rows has none
none_by : (cell : ℤ) (rows : List Row) (a r : ℕ) → r < a
    → ((k : ℕ) (row : Row) → slice_get rows k ≡ Some row → has_number cell row ≡ true → r ≡ a + k)
    → find (has_number cell) rows ≡ None
none_by cell [] a r h f = refl
none_by cell (x ∷ rows) a r h f =
    none_test (has_number cell x) refl
    (none_by cell rows (a + 1) r (omega arith) (λ k row e t. f (suc k) row e t ∙ omega arith))
  where
    none_test : (b : Bool) → has_number cell x ≡ b → find (has_number cell) rows ≡ None
        → cond b (Some x) (find (has_number cell) rows) ≡ None
    none_test true e g = absurd (omega (arith, h, f 0 x refl e))
    none_test false e g = g

found_by : (cell : ℤ) (rows : List Row) (a r j : ℕ) → r ≡ a + j
    → ((k : ℕ) (row : Row) → slice_get rows k ≡ Some row → has_number cell row ≡ true → r ≡ a + k)
    → find (has_number cell) rows ≡ kept cell (slice_get rows j)
found_by cell [] a r j h f = refl
found_by cell (x ∷ rows) a r zero h f =
    found_first (has_number cell x)
    (none_by cell rows (a + 1) r (omega arith) (λ k row e t. f (suc k) row e t ∙ omega arith))
  where
    found_first : (b : Bool) → find (has_number cell) rows ≡ None
        → cond b (Some x) (find (has_number cell) rows) ≡ cond b (Some x) None
    found_first true g = refl
    found_first false g = g
found_by cell (x ∷ rows) a r (suc j) h f =
    found_later (has_number cell x) refl
    (found_by cell rows (a + 1) r j (omega arith) (λ k row e t. f (suc k) row e t ∙ omega arith))
  where
    found_later : (b : Bool) → has_number cell x ≡ b
        → find (has_number cell) rows ≡ kept cell (slice_get rows j)
        → cond b (Some x) (find (has_number cell) rows) ≡ kept cell (slice_get rows j)
    found_later true e g = absurd (omega (arith, h, f 0 x refl e))
    found_later false e g = g

pub row_found : (cell : ℤ) (r : ℕ)
    → ((k : ℕ) (row : Row) → slice_get table k ≡ Some row → row.number ≡ bits_of cell → r ≡ k)
    → row_at cell ≡ kept cell (slice_get table r)
unfolding row_at
row_found cell r f =
    found_by cell table 0 r r (omega arith)
    (λ k row e t. f k row e (ap bits_of ((Decides-int_eq (pos row.number) cell).0 t))
    ∙ omega arith)

-- the row at a place of the rows that the code holds
pub held_at : (rows : List (ℕ × Op × Bor (List ℕ) × Operand)) (d : ℕ × Op × Bor (List ℕ) × Operand)
    (r : ℕ) → rows_of rows ≡ table → r < length table
    → slice_get table r ≡ Some (row_by (get_or rows r d))
held_at rows d r e h =
    ap (λ t. slice_get t r) (sym e)
    ∙ held rows d r (omega (arith, ap length e, length-map rows row_by))
  where
    held : (rows : List (ℕ × Op × Bor (List ℕ) × Operand)) (d : ℕ × Op × Bor (List ℕ) × Operand)
        (r : ℕ) → r < length rows
        → slice_get (rows_of rows) r ≡ Some (row_by (get_or rows r d))
    held [] d r h = absurd (omega (arith, h))
    held (x ∷ rows) d zero h = refl
    held (x ∷ rows) d (suc r) h = held rows d r (omega (arith, h))

module _ (rows : List (ℕ × Op × Bor (List ℕ) × Operand)) (d : ℕ × Op × Bor (List ℕ) × Operand)
    (cell : ℤ) (r : ℕ) (e : rows_of rows ≡ table) (h : r < length table)
    (f : (k : ℕ) (row : Row) → slice_get table k ≡ Some row → row.number ≡ bits_of cell
    → r ≡ k) where
  pub row_kept : (pos (get_or rows r d).0 ≡ cell) → Some (row_by (get_or rows r d)) ≡ row_at cell
  row_kept same =
      sym (row_found cell r f ∙ ap (kept cell) (held_at rows d r e h)
      ∙ rw ((Decides-int_eq (pos (get_or rows r d).0) cell).1 same))

  pub row_left : (pos (get_or rows r d).0 ≢ cell) → None ≡ row_at cell
  row_left other =
      sym (row_found cell r f ∙ ap (kept cell) (held_at rows d r e h)
      ∙ rw (int_eq-other (pos (get_or rows r d).0) cell other))
