-- The row of a number, by the groups and by the whole table.
use Rattle.std.proofs.Common.{◌≡◌, ◌∷◌, ◌++◌, ℕ, ℤ, pos, negsuc, List, [], Bool, true, false, ◌||◌}
use Rattle.std.proofs.Common.{Option, None, Some, find, slice_get, take, drop, cond, refl, sym, ap}
use Rattle.std.proofs.Common.{◌∙◌}
use Rattle.std.proofs.lemmas.Bool.{eqb-true, eq-eqb, false≢true, both_ways}
use Rattle.std.proofs.lemmas.Bool.Decides.{Decides-int_eq, same_from_decides}
use Rattle.std.specs.Bool.{Decides}
use Rattle.std.proofs.lemmas.Option.{none-some}
use Rattle.std.specs.List.{list_any}
use Rattle.amx_ops.specs.declared.amx.Amx.{Amx}
use Rattle.amx_ops.specs.Table.{Row, table, is_number, has_number, row_at, row_of}
use Rattle.amx_ops.specs.Valid.{is_cases_kind}
use Rattle.amx_ops.specs.State.{State, Turned, Errs}
use Rattle.amx_ops.specs.Step.{act}
use Rattle.amx_step.specs.Groups.{among, group, first, store_row, load_row, call_row, sum_row}
use Rattle.amx_step.specs.Groups.{host_row, row_past_sums, row_past_calls, row_past_loads, row}

abbrev size_of : ℤ → ℕ
size_of (pos n) = n
size_of (negsuc n) = n

abbrev is_pos : ℤ → Bool
is_pos (pos n) = true
is_pos (negsuc n) = false

is_number_decides : (n : ℕ) (cell : ℤ) → Decides (is_number n cell) (pos n ≡ cell)
is_number_decides n (pos m) = (λ e. ap pos (eqb-true n m e), λ e. eq-eqb n m (ap size_of e))
is_number_decides n (negsuc m) =
    (λ e. absurd (false≢true e), λ e. absurd (false≢true (sym (ap is_pos e))))

same_test : (row : Row) (cell : ℤ) → is_number row.number cell ≡ has_number cell row
same_test row cell =
    same_from_decides (is_number row.number cell) (has_number cell row)
    (is_number_decides row.number cell) (Decides-int_eq (pos row.number) cell)

among_is : (rows : List Row) (cell : ℤ) → among rows cell ≡ find (has_number cell) rows
among_is [] cell = refl
among_is (row ∷ rows) cell =
    ap (λ b. cond b (Some row) (among rows cell)) (same_test row cell)
    ∙ ap (λ o. cond (has_number cell row) (Some row) o) (among_is rows cell)

by_test : (b : Bool) (row : Row) (o p : Option Row)
    → cond b (Some row) (first o p) ≡ first (cond b (Some row) o) p
by_test true row o p = refl
by_test false row o p = refl

among_append : (a b : List Row) (cell : ℤ)
    → among (a ++ b) cell ≡ first (among a cell) (among b cell)
among_append [] b cell = refl
among_append (row ∷ a) b cell =
    ap (λ o. cond (is_number row.number cell) (Some row) o) (among_append a b cell)
    ∙ by_test (is_number row.number cell) row (among a cell) (among b cell)

abbrev part : ℕ → ℕ → List Row
part from count = take count (drop from table)

abbrev past_sums : List Row
past_sums = part 89 16 ++ (part 105 13 ++ part 118 12)

abbrev past_calls : List Row
past_calls = (part 59 15 ++ part 74 15) ++ past_sums

abbrev past_loads : List Row
past_loads = (part 30 15 ++ part 45 14) ++ past_calls

parts : table ≡ (part 0 14 ++ (part 14 10 ++ part 24 6))
    ++ ((part 30 15 ++ part 45 14)
    ++ ((part 59 15 ++ part 74 15) ++ (part 89 16 ++ (part 105 13 ++ part 118 12))))
parts = refl

two : (a b : List Row) (cell : ℤ) (p q : Option Row) → among a cell ≡ p → among b cell ≡ q
    → among (a ++ b) cell ≡ first p q
two a b cell p q e f = among_append a b cell ∙ ap (λ o. first o (among b cell)) e ∙ ap (first p) f

-- the groups together are the table
pub row_is : (cell : ℤ) → row_at cell ≡ row cell
unfolding row_at
row_is cell =
    sym (among_is table cell) ∙ ap (λ rows. among rows cell) parts
    ∙ two (part 0 14 ++ (part 14 10 ++ part 24 6)) past_loads cell (load_row cell)
    (row_past_loads cell)
    (two (part 0 14) (part 14 10 ++ part 24 6) cell (group 0 14 cell) (store_row cell) refl
    (two (part 14 10) (part 24 6) cell (group 14 10 cell) (group 24 6 cell) refl refl))
    (two (part 30 15 ++ part 45 14) past_calls cell (call_row cell) (row_past_calls cell)
    (two (part 30 15) (part 45 14) cell (group 30 15 cell) (group 45 14 cell) refl refl)
    (two (part 59 15 ++ part 74 15) past_sums cell (sum_row cell) (row_past_sums cell)
    (two (part 59 15) (part 74 15) cell (group 59 15 cell) (group 74 15 cell) refl refl)
    (two (part 89 16) (part 105 13 ++ part 118 12) cell (group 89 16 cell) (host_row cell) refl
    (two (part 105 13) (part 118 12) cell (group 105 13 cell) (group 118 12 cell) refl refl))))

-- ---- what is so of a row that was found

abbrev number_in : Option Row → ℕ
number_in None = 0
number_in (Some row) = row.number

found_by : (rows : List Row) (cell : ℤ) (b : Bool) (it row : Row) → is_number it.number cell ≡ b
    → cond b (Some it) (among rows cell) ≡ Some row
    → (among rows cell ≡ Some row → is_number row.number cell ≡ true)
    → is_number row.number cell ≡ true
found_by rows cell true it row e found others =
    ap (λ (o : Option Row). is_number (number_in o) cell) (sym found) ∙ e
found_by rows cell false it row e found others = others found

number_there : (rows : List Row) (cell : ℤ) (row : Row) → among rows cell ≡ Some row
    → is_number row.number cell ≡ true
number_there [] cell row e = absurd (none-some row e)
number_there (it ∷ rows) cell row e =
    found_by rows cell (is_number it.number cell) it row refl e (number_there rows cell row)

cell_is : (n : ℕ) (cell : ℤ) → is_number n cell ≡ true → cell ≡ pos n
cell_is n (pos m) e = ap pos (sym (eqb-true n m e))
cell_is n (negsuc m) e = absurd (false≢true e)

-- its own number leads to it
pub row_again : (cell : ℤ) (it : Row) → row_at cell ≡ Some it → row_of it.number ≡ Some it
unfolding row_at
row_again cell it e =
    let found : among table cell ≡ Some it = among_is table cell ∙ e in
    ap (λ (c : ℤ). find (has_number c) table)
    (sym (cell_is it.number cell (number_there table cell it found))) ∙ e

-- ---- case tables

abbrev kind_in : Option Row → Bool
kind_in None = false
kind_in (Some row) = is_cases_kind row.operand

or_parts : (x y : Bool) → (x || y) ≡ false → (x ≡ false) × (y ≡ false)
or_parts true y e = absurd (false≢true (sym e))
or_parts false y e = (refl, e)

-- what the operation of a row does, if there is one
abbrev acted : Option Row → Amx → ℤ → ℕ → State → Turned
acted None amx v q s = Errs (pos 6)
acted (Some it) amx v q s = act amx it.op v q s

no_cases_by : (rows : List Row) (cell : ℤ) (b : Bool) (it row : Row)
    → list_any (λ (r : Row). is_cases_kind r.operand) (it ∷ rows) ≡ false
    → cond b (Some it) (among rows cell) ≡ Some row
    → (among rows cell ≡ Some row → is_cases_kind row.operand ≡ false)
    → is_cases_kind row.operand ≡ false
no_cases_by rows cell true it row n e others =
    sym (ap (λ (o : Option Row). kind_in o) e) ∙ (or_parts (is_cases_kind it.operand) _ n).0
no_cases_by rows cell false it row n e others = others e

no_cases : (rows : List Row) (cell : ℤ) (row : Row)
    → list_any (λ (r : Row). is_cases_kind r.operand) rows ≡ false → among rows cell ≡ Some row
    → is_cases_kind row.operand ≡ false
no_cases [] cell row n e = absurd (none-some row e)
no_cases (it ∷ rows) cell row n e =
    no_cases_by rows cell (is_number it.number cell) it row n e
    (no_cases rows cell row (or_parts (is_cases_kind it.operand) _ n).1)

-- the rows before that of a case table, and those behind it
split : table ≡ take 124 table ++ (take 1 (drop 124 table) ++ drop 125 table)
split = refl

none_before : list_any (λ (r : Row). is_cases_kind r.operand) (take 124 table) ≡ false
none_before = refl

none_behind : list_any (λ (r : Row). is_cases_kind r.operand) (drop 125 table) ≡ false
none_behind = refl

abbrev pub IsRefused : Row → Type 0
IsRefused it = (amx : Amx) (v : ℤ) (q : ℕ) (s : State) → act amx it.op v q s ≡ Errs (pos 6)

last_by : (cell : ℤ) (it : Row) (b : Bool) (o : Option Row)
    → (o ≡ Some it → is_cases_kind it.operand ≡ false) → is_cases_kind it.operand ≡ true
    → first (cond b (slice_get table 124) None) o ≡ Some it → IsRefused it
last_by cell it true o h k e amx v q s = refused (sym e) amx v q s
  where
    refused : Some it ≡ slice_get table 124 → IsRefused it
    refused e amx v q s = ap (λ (o : Option Row). acted o amx v q s) e
last_by cell it false o h k e amx v q s = absurd (both_ways (is_cases_kind it.operand) (h e) k)

before_by : (cell : ℤ) (it : Row) (o p : Option Row)
    → (o ≡ Some it → is_cases_kind it.operand ≡ false) → (p ≡ Some it → IsRefused it)
    → is_cases_kind it.operand ≡ true → first o p ≡ Some it → IsRefused it
before_by cell it None p h g k e = g e
before_by cell it (Some row) p h g k e = absurd (both_ways (is_cases_kind it.operand) (h e) k)

-- a case table isn't executed
pub cases_refused : (cell : ℤ) (it : Row) → row_at cell ≡ Some it → is_cases_kind it.operand ≡ true
    → IsRefused it
unfolding row_at
cases_refused cell it e k =
    let found =
    sym (among_append (take 124 table) (take 1 (drop 124 table) ++ drop 125 table) cell)
    ∙ ap (λ rows. among rows cell) (sym split) ∙ among_is table cell ∙ e in
    before_by cell it (among (take 124 table) cell)
    (among (take 1 (drop 124 table) ++ drop 125 table) cell)
    (no_cases (take 124 table) cell it none_before)
    (λ f. last_by cell it (is_number 130 cell) (among (drop 125 table) cell)
    (no_cases (drop 125 table) cell it none_behind) k
    (sym (among_append (take 1 (drop 124 table)) (drop 125 table) cell) ∙ f))
    k found
