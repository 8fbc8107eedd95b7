-- The kinds of code are the numbers of the instructions where they start, and an instruction that
-- starts at an address is the one at the front of the cells there.
use Rattle.std.proofs.Common.{◌≡◌, ◌≢◌, ◌+◌, ◌-◌, ◌*◌, ◌/◌, ◌%◌, ◌<◌, ◌≤◌, ◌==◌, ℕ, zero, suc, ℤ}
use Rattle.std.proofs.Common.{List, [], ◌∷◌, Bool, true, false, Option, None, Some, refl, sym, ap}
use Rattle.std.proofs.Common.{◌∙◌, ◌++◌, append_assoc, arith, length, drop, get_or, find, cond, subst}
use Rattle.std.proofs.Common.{option_map, is_some, pos, negsuc, ◌&&◌, ◌||◌, All, nat_le}
use Rattle.std.proofs.lemmas.Bool.{eq-eqb, ne_eqb, eqb-true, false≢true}
use Rattle.std.proofs.lemmas.List.{drop-drop, get_or-drop}
use Rattle.std.proofs.lemmas.List.Elements.{All-nil, All-cons}
use Rattle.std.proofs.lemmas.Option.{none-some}
use Rattle.std.specs.List.{list_any}
use Rattle.amx_ops.specs.declared.instr.Instr.{Instr}
use Rattle.amx_ops.specs.declared.table.Operand.{Operand}
use Rattle.amx_ops.specs.declared.table.Operand.TheVariants as operand
use Rattle.amx_ops.specs.Instructions.{Placed, placed, placed_from, placed_by, front, fetched}
use Rattle.amx_ops.specs.Instructions.{is_start, read_by, read_row, with_operand, with_cases}
use Rattle.amx_ops.specs.Table.{Row, row_at, row_of, operand_by}
use Rattle.amx_ops.specs.Valid.{is_cases, is_table}
use Rattle.amx_ops.proofs.FetchLaws.{cell_is, fetched_is}
use Rattle.amx_verify.specs.Kinds.{kind_by, kind, passed_by, kinds, kinds_of, StartsAs, table_by}

pub length-kinds : (passed : ℕ) (cells : List ℤ) → length (kinds passed cells) ≡ length cells
length-kinds passed [] = refl
length-kinds (suc passed) (cell ∷ cells) = ap suc (length-kinds passed cells)
length-kinds zero (cell ∷ cells) =
    ap suc (length-kinds (passed_by (front (cell ∷ cells)) (length cells)) cells)

-- the instruction at an address, among some that were placed
abbrev pub at_address : ℕ → List Placed → Option Instr
at_address a ps = option_map (λ it. it.instr) (find (λ it. it.at == a) ps)

head_is : (at a : ℕ) (i : Instr) (ps : List Placed) → at ≡ a
    → at_address a (record { at = at; instr = i } ∷ ps) ≡ Some i
head_is at a i ps e = rw (eq-eqb at a e) refl

head_isnt : (at a : ℕ) (i : Instr) (ps : List Placed) → at ≢ a
    → at_address a (record { at = at; instr = i } ∷ ps) ≡ at_address a ps
head_isnt at a i ps e = rw (ne_eqb at a e) refl

-- an address that none of them has
record Misses (a at : ℕ) (cells : List ℤ) : Type 0 where
  misses : (k : ℕ) → k < length cells → at + 4 * k ≢ a

misses_tail : (a at : ℕ) (cell : ℤ) (cells : List ℤ) → Misses a at (cell ∷ cells)
    → Misses a (at + 4) cells
misses_tail a at cell cells m =
    record { misses = λ k h e. m.misses (suc k) (omega (arith, h)) (omega (arith, e)) }

missed_by : (a at : ℕ) (o : Option Instr) (cells : List ℤ) → at ≢ a
    → ((i : Instr) → at_address a (placed_from (at + 4) (i.cells - 1) cells) ≡ None)
    → at_address a (placed_by at o (λ i. placed_from (at + 4) (i.cells - 1) cells)) ≡ None
missed_by a at None cells e rest = refl
missed_by a at (Some i) cells e rest = head_isnt at a i _ e ∙ rest i

missed : (a at passed : ℕ) (cells : List ℤ) → Misses a at cells
    → at_address a (placed_from at passed cells) ≡ None
missed a at passed [] m = refl
missed a at (suc passed) (cell ∷ cells) m =
    missed a (at + 4) passed cells (misses_tail a at cell cells m)
missed a at zero (cell ∷ cells) m =
    missed_by a at (front (cell ∷ cells)) cells (λ e. m.misses 0 (omega arith) (omega (arith, e)))
    (λ i. missed a (at + 4) (i.cells - 1) cells (misses_tail a at cell cells m))

no_kinds : (passed k : ℕ) (cells : List ℤ) → length cells ≤ passed
    → get_or (kinds passed cells) k 0 ≡ 0
no_kinds passed k [] h = refl
no_kinds zero k (cell ∷ cells) h = absurd (omega (arith, h))
no_kinds (suc passed) zero (cell ∷ cells) h = refl
no_kinds (suc passed) (suc k) (cell ∷ cells) h = no_kinds passed k cells (omega (arith, h))

kind_there_by : (at k : ℕ) (cells : List ℤ) (o : Option Instr)
    → ((i : Instr) (j : ℕ) → get_or (kinds (i.cells - 1) cells) j 0
    ≡ kind_by (at_address ((at + 4) + 4 * j) (placed_from (at + 4) (i.cells - 1) cells)))
    → get_or (kind_by o ∷ kinds (passed_by o (length cells)) cells) k 0
    ≡ kind_by (at_address (at + 4 * k)
    (placed_by at o (λ i. placed_from (at + 4) (i.cells - 1) cells)))
kind_there_by at zero cells None rest = refl
kind_there_by at (suc k) cells None rest = no_kinds (length cells) k cells (omega arith)
kind_there_by at zero cells (Some i) rest =
    ap kind_by (sym (head_is at (at + 4 * 0) i _ (omega arith)))
kind_there_by at (suc k) cells (Some i) rest =
    rest i k
    ∙ ap (λ a. kind_by (at_address a (placed_from (at + 4) (i.cells - 1) cells))) (omega arith)
    ∙ ap kind_by (sym (head_isnt at (at + 4 * suc k) i _ (λ same. omega (arith, same))))

kind_there : (at passed k : ℕ) (cells : List ℤ) → get_or (kinds passed cells) k 0
    ≡ kind_by (at_address (at + 4 * k) (placed_from at passed cells))
kind_there at passed k [] = refl
kind_there at (suc passed) zero (cell ∷ cells) =
    ap kind_by (sym (missed (at + 4 * 0) (at + 4) passed cells
    (record { misses = λ j l e. omega (arith, e) })))
kind_there at (suc passed) (suc k) (cell ∷ cells) =
    kind_there (at + 4) passed k cells
    ∙ ap (λ a. kind_by (at_address a (placed_from (at + 4) passed cells))) (omega arith)
kind_there at zero k (cell ∷ cells) =
    kind_there_by at k cells (front (cell ∷ cells))
    (λ i j. kind_there (at + 4) (i.cells - 1) j cells)

-- there is no instruction between cells
fetched-between : (code : List ℤ) (a : ℕ) → a % 4 ≢ 0 → fetched code a ≡ None
fetched-between code a e =
    missed a 0 0 code (record { misses = λ k h same. e (omega (arith, same)) })

kind-at_by : (code : List ℤ) (a : ℕ) (b : Bool) → (a % 4 == 0) ≡ b
    → cond b (get_or (kinds_of code) (a / 4) 0) 0 ≡ kind code a
kind-at_by code a true e =
    kind_there 0 0 (a / 4) code
    ∙ ap (λ b. kind_by (at_address b (placed code))) (omega (arith, eqb-true (a % 4) 0 e))
kind-at_by code a false e =
    ap kind_by (sym (fetched-between code a
    (λ z. false≢true (sym e ∙ eq-eqb (a % 4) 0 z))))

-- the kind at an address is found at its cell
pub kind-at : (code : List ℤ) (found : List ℕ) (a : ℕ) → found ≡ kinds_of code
    → cond (a % 4 == 0) (get_or found (a / 4) 0) 0 ≡ kind code a
kind-at code found a are =
    ap (λ ks. cond (a % 4 == 0) (get_or ks (a / 4) 0) 0) are
    ∙ kind-at_by code a (a % 4 == 0) refl

-- ---- as the code meets them

-- one more kind
pub kinds-more : (whole done new : List ℕ) (b passed others place : ℕ)
    (cells back : List ℤ) → new ≡ done ++ b ∷ [] → back ≡ drop place cells
    → kinds passed back ≡ b ∷ kinds others (drop 1 back)
    → done ++ kinds passed (drop place cells) ≡ whole
    → new ++ kinds others (drop (place + 1) cells) ≡ whole
kinds-more whole done new b passed others place cells back n at first so_far =
    let rest : kinds others (drop (place + 1) cells) ≡ kinds others (drop 1 back) =
    ap (kinds others) (sym (drop-drop 1 place cells) ∙ ap (drop 1) (sym at)) in
    ap (λ front. front ++ kinds others (drop (place + 1) cells)) n
    ∙ append_assoc done (b ∷ []) (kinds others (drop (place + 1) cells))
    ∙ ap (λ back. done ++ (b ∷ back)) rest
    ∙ ap (λ back. done ++ back) (sym first ∙ ap (kinds passed) at) ∙ so_far

-- ---- an instruction that was read has the number of its cell, which isn't 0

abbrev op_number_in : Option Instr → ℕ → ℕ
op_number_in None n = n
op_number_in (Some i) n = i.op

operand_number : (n : ℕ) (cells : List ℤ) → op_number_in (with_operand n cells) n ≡ n
operand_number n [] = refl
operand_number n (cell ∷ cells) = refl

table_number : (n : ℕ) (cells : List ℤ) → op_number_in (with_cases n cells) n ≡ n
table_number n [] = refl
table_number n (count ∷ []) = refl
table_number n (negsuc count ∷ default ∷ pairs) = refl
table_number n (pos count ∷ default ∷ pairs) = by_size (nat_le (2 * count) (length pairs))
  where
    by_size : (b : Bool) → op_number_in
        (cond b (Some (record { op = n; operand = pos count; cells = 3 + 2 * count })) None) n ≡ n
    by_size true = refl
    by_size false = refl

read_number : (kind : Operand) (n : ℕ) (cells : List ℤ) → op_number_in (read_by n kind cells) n ≡ n
read_number operand.Nothing n cells = refl
read_number operand.Cases n cells = table_number n cells
read_number kind n cells = operand_number n cells

pub number_of_read : (kind : Operand) (n : ℕ) (cells : List ℤ) (i : Instr)
    → read_by n kind cells ≡ Some i → i.op ≡ n
number_of_read kind n cells i e =
    sym (ap (λ o. op_number_in o n) e) ∙ read_number kind n cells

no_row : row_of 0 ≡ None
unfolding row_at
no_row = refl

not_zero : (n : ℕ) (row : Row) → row_of n ≡ Some row → 0 < n
not_zero zero row e = absurd (none-some row (sym no_row ∙ e))
not_zero (suc n) row e = omega arith

record HasNumber (cells : List ℤ) (i : Instr) : Type 0 where
  cell : pos i.op ≡ get_or cells 0 (pos 0)
  some : 0 < i.op

front_number : (cells : List ℤ) (i : Instr) → front cells ≡ Some i → HasNumber cells i
front_number [] i e = absurd (none-some i e)
front_number (cell ∷ cells) i e = by_row (row_at cell) refl e
  where
    by_row : (o : Option Row) → row_at cell ≡ o → read_row (operand_by o) cells ≡ Some i
        → HasNumber (cell ∷ cells) i
    by_row None r e = absurd (none-some i e)
    by_row (Some row) r e =
        let is : pos i.op ≡ cell =
        ap pos (number_of_read row.operand row.number cells i e) ∙ sym (cell_is cell row r) in
        record { cell = is; some = not_zero i.op row (ap row_at is ∙ r) }

-- ---- it stands at a cell of the code

placed_first : (P : Placed → Type 0) (at : ℕ) (o : Option Instr) (others : Instr → List Placed)
    → ((i : Instr) → o ≡ Some i → P (record { at = at; instr = i }))
    → ((i : Instr) → All P (others i))
    → All P (placed_by at o others)
placed_first P at None others h rest = All-nil P
placed_first P at (Some i) others h rest =
    All-cons P (record { at = at; instr = i }) (others i) (h i refl) (rest i)

-- what holds of each whole instruction at a cell holds of those that are placed
all_placed : (P : Placed → Type 0) (at passed : ℕ) (cells : List ℤ)
    → ((k : ℕ) (i : Instr) → k < length cells → front (drop k cells) ≡ Some i
    → P (record { at = at + 4 * k; instr = i }))
    → All P (placed_from at passed cells)
all_placed P at passed [] h = All-nil P
all_placed P at (suc passed) (cell ∷ cells) h =
    all_placed P (at + 4) passed cells (λ k i l e. subst (λ a. P (record { at = a; instr = i }))
    (omega arith) (h (suc k) i (omega (arith, l)) e))
all_placed P at zero (cell ∷ cells) h =
    placed_first P at (front (cell ∷ cells)) (λ i. placed_from (at + 4) (i.cells - 1) cells)
    (λ i e. subst (λ a. P (record { at = a; instr = i })) (omega arith) (h 0 i (omega arith) e))
    (λ i. all_placed P (at + 4) (i.cells - 1) cells
    (λ k j l e. subst (λ a. P (record { at = a; instr = j })) (omega arith)
    (h (suc k) j (omega (arith, l)) e)))

record Stands (code : List ℤ) (it : Placed) : Type 0 where
  within : (it.at % 4 ≡ 0) × (it.at / 4 < length code)
  here : front (drop (it.at / 4) code) ≡ Some it.instr

stands : (code : List ℤ) (a : ℕ) (i : Instr) → fetched code a ≡ Some i
    → Stands code (record { at = a; instr = i })
stands code a i e =
    fetched_is (Stands code) code a i
    (all_placed (Stands code) 0 0 code (λ k j l f. record {
      within = (omega arith, omega (arith, l));
      here = ap (λ n. front (drop n code)) (omega arith) ∙ f;
    })) e

starts_by : (code : List ℤ) (a : ℕ) (o : Option Instr) → fetched code a ≡ o → 0 < kind_by o
    → StartsAs code a (kind_by o)
starts_by code a None e h = absurd (omega (arith, h))
starts_by code a (Some i) e h =
    let it = stands code a i e in
    let place : (a / 4) + 0 ≡ a / 4 = omega arith in
    record {
      start = ap is_some e;
      within = it.within;
      here = e ∙ sym it.here;
      cell = (front_number (drop (a / 4) code) i it.here).cell
          ∙ get_or-drop (a / 4) code 0 (pos 0) ∙ ap (λ k. get_or code k (pos 0)) place;
    }

-- a kind that isn't 0 is the number of an instruction that starts there
pub kind-some : (code : List ℤ) (a : ℕ) → 0 < kind code a → StartsAs code a (kind code a)
kind-some code a h = starts_by code a (fetched code a) refl h

none_by : (code : List ℤ) (a : ℕ) (o : Option Instr) → fetched code a ≡ o → kind_by o ≡ 0
    → is_some o ≡ false
none_by code a None e z = refl
none_by code a (Some i) e z =
    absurd (omega (
      arith,
      z,
      (front_number (drop (a / 4) code) i (stands code a i e).here).some,
    ))

-- and where it is 0 none starts
pub kind-none : (code : List ℤ) (a : ℕ) → kind code a ≡ 0 → is_start code a ≡ false
kind-none code a z = none_by code a (fetched code a) refl z

-- ---- case tables

abbrev any_at : ℕ → List Placed → Bool
any_at a its = list_any (λ (it : Placed). (it.at == a) && is_cases (row_of it.instr.op)) its

none_at_by : (a at : ℕ) (o : Option Instr) (cells : List ℤ) → at ≢ a
    → ((i : Instr) → any_at a (placed_from (at + 4) (i.cells - 1) cells) ≡ false)
    → any_at a (placed_by at o (λ i. placed_from (at + 4) (i.cells - 1) cells)) ≡ false
none_at_by a at None cells e rest = refl
none_at_by a at (Some i) cells e rest = rw (ne_eqb at a e) (rest i)

none_at : (a at passed : ℕ) (cells : List ℤ) → Misses a at cells
    → any_at a (placed_from at passed cells) ≡ false
none_at a at passed [] m = refl
none_at a at (suc passed) (cell ∷ cells) m =
    none_at a (at + 4) passed cells (misses_tail a at cell cells m)
none_at a at zero (cell ∷ cells) m =
    none_at_by a at (front (cell ∷ cells)) cells (λ e. m.misses 0 (omega arith) (omega (arith, e)))
    (λ i. none_at a (at + 4) (i.cells - 1) cells (misses_tail a at cell cells m))

or_false : (b : Bool) → (b || false) ≡ b
or_false true = refl
or_false false = refl

table_at_by : (a at : ℕ) (o : Option Instr) (cells : List ℤ) (b : Bool) → (at == a) ≡ b
    → ((i : Instr) → any_at a (placed_from (at + 4) (i.cells - 1) cells)
    ≡ table_by (at_address a (placed_from (at + 4) (i.cells - 1) cells)))
    → any_at a (placed_by at o (λ i. placed_from (at + 4) (i.cells - 1) cells))
    ≡ table_by (at_address a (placed_by at o (λ i. placed_from (at + 4) (i.cells - 1) cells)))
table_at_by a at None cells b e rest = refl
table_at_by a at (Some i) cells true e rest =
    let same : at ≡ a = eqb-true at a e in
    let others : any_at a (placed_from (at + 4) (i.cells - 1) cells) ≡ false =
    none_at a (at + 4) (i.cells - 1) cells (record { misses = λ k h n. omega (arith, n, same) }) in
    rw e (ap (λ o. is_cases (row_of i.op) || o) others ∙ or_false (is_cases (row_of i.op)))
table_at_by a at (Some i) cells false e rest = rw e (rest i)

table_at : (a at passed : ℕ) (cells : List ℤ)
    → any_at a (placed_from at passed cells) ≡ table_by (at_address a (placed_from at passed cells))
table_at a at passed [] = refl
table_at a at (suc passed) (cell ∷ cells) = table_at a (at + 4) passed cells
table_at a at zero (cell ∷ cells) =
    table_at_by a at (front (cell ∷ cells)) cells (at == a) refl
    (λ i. table_at a (at + 4) (i.cells - 1) cells)

-- a case table stands at an address exactly where the instruction there is one
pub table_there : (code : List ℤ) (at : ℕ)
    → table_by (fetched code at) ≡ is_table (placed code) (pos at)
table_there code at = sym (table_at at 0 0 code)
