-- What is fetched of valid code.
use Rattle.std.proofs.Common.{◌≡◌, ◌+◌, ◌-◌, ◌*◌, ◌≤◌, ◌==◌, ℕ, zero, suc, ℤ, pos, negsuc, List, []}
use Rattle.std.proofs.Common.{◌∷◌, Bool, true, false, cond, Option, None, Some, IfSome, All, map}
use Rattle.std.proofs.Common.{find, length, drop, option_map, nat_le, refl, sym, ap, subst, ◌∙◌}
use Rattle.std.proofs.Common.{arith}
use Rattle.std.proofs.lemmas.Bool.{eqb-true, leb-true}
use Rattle.std.proofs.lemmas.Bool.Decides.{Decides-int_eq}
use Rattle.std.proofs.lemmas.List.Elements.{All-nil, All-cons, All-head, All-tail}
use Rattle.pawn_cells.specs.Cells.{IsCell}
use Rattle.amx_ops.specs.declared.op.Op.{Op}
use Rattle.amx_ops.specs.declared.instr.Instr.{Instr}
use Rattle.amx_ops.specs.declared.table.Operand.{Operand}
use Rattle.amx_ops.specs.declared.table.Operand.TheVariants as operand
use Rattle.amx_ops.specs.Table.{Row, table, row_at, row_of, has_number, op_of, op_by, number_of}
use Rattle.amx_ops.specs.Table.{operand_of, operand_at}
use Rattle.amx_ops.specs.Instructions.{Placed, placed, placed_from, placed_by, front, read_row}
use Rattle.amx_ops.specs.Instructions.{read_by, with_operand, with_cases, cells_in, fetched}
use Rattle.amx_ops.specs.Valid.{Fault, broken, or_else, first_of, proper, row_fault, operand_fault}
use Rattle.amx_ops.specs.Valid.{IsValid}

-- ---- its operand is a cell, and it ends within the code

pub record Reads (size : ℕ) (i : Instr) : Type 0 where
  pub operand : IsCell i.operand
  pub some : 1 ≤ i.cells
  pub within : i.cells ≤ size

zero_cell : IsCell (pos 0)
zero_cell = record { sfits = omega arith }

reads_operand : (n : ℕ) (cells : List ℤ) → All IsCell cells
    → IfSome (with_operand n cells) (Reads (suc (length cells)))
reads_operand n [] h = tt
reads_operand n (v ∷ cells) h =
    record { operand = All-head IsCell v cells h; some = omega arith; within = omega arith }

reads_table_by : (n count : ℕ) (pairs : List ℤ) (b : Bool) → nat_le (2 * count) (length pairs) ≡ b
    → IsCell (pos count)
    → IfSome (cond b (Some (record { op = n; operand = pos count; cells = 3 + 2 * count })) None)
    (Reads (3 + length pairs))
reads_table_by n count pairs true e h =
    let k = leb-true (2 * count) (length pairs) e in
    record { operand = h; some = omega arith; within = omega arith }
reads_table_by n count pairs false e h = tt

reads_cases : (n : ℕ) (cells : List ℤ) → All IsCell cells
    → IfSome (with_cases n cells) (Reads (suc (length cells)))
reads_cases n [] h = tt
reads_cases n (count ∷ []) h = tt
reads_cases n (pos count ∷ default ∷ pairs) h =
    subst (λ m. IfSome (with_cases n (pos count ∷ default ∷ pairs)) (Reads m)) (omega arith)
    (reads_table_by n count pairs (nat_le (2 * count) (length pairs)) refl
    (All-head IsCell (pos count) (default ∷ pairs) h))
reads_cases n (negsuc count ∷ default ∷ pairs) h = tt

reads_by : (n : ℕ) (kind : Operand) (cells : List ℤ) → All IsCell cells
    → IfSome (read_by n kind cells) (Reads (suc (length cells)))
reads_by n operand.Nothing cells h =
    record { operand = zero_cell; some = omega arith; within = omega arith }
reads_by n operand.Cases cells h = reads_cases n cells h
reads_by n kind cells h = reads_operand n cells h

reads_row : (row : Option (ℕ × Operand)) (cells : List ℤ) → All IsCell cells
    → IfSome (read_row row cells) (Reads (suc (length cells)))
reads_row None cells h = tt
reads_row (Some row) cells h = reads_by row.0 row.1 cells h

-- of instructions one behind another, the last of which ends at an address or before
pub record IsWithin (high : ℕ) (it : Placed) : Type 0 where
  pub operand : IsCell it.instr.operand
  pub ends : it.at + 4 * it.instr.cells ≤ high

within_by : (at size high : ℕ) (o : Option Instr) (others : Instr → List Placed)
    → at + 4 * size ≤ high → IfSome o (Reads size)
    → ((i : Instr) → All (IsWithin high) (others i)) → All (IsWithin high) (placed_by at o others)
within_by at size high None others e r h = All-nil (IsWithin high)
within_by at size high (Some i) others e r h =
    All-cons (IsWithin high) (record { at = at; instr = i }) (others i)
    (record { operand = r.operand; ends = omega (arith, r.within) }) (h i)

placed_within : (at passed high : ℕ) (cells : List ℤ) → All IsCell cells
    → at + 4 * length cells ≤ high
    → All (IsWithin high) (placed_from at passed cells)
placed_within at passed high [] h e = All-nil (IsWithin high)
placed_within at (suc passed) high (cell ∷ cells) h e =
    placed_within (at + 4) passed high cells (All-tail IsCell cell cells h) (omega arith)
placed_within at zero high (cell ∷ cells) h e =
    let rest : All IsCell cells = All-tail IsCell cell cells h in
    within_by at (suc (length cells)) high (front (cell ∷ cells))
    (λ i. placed_from (at + 4) (i.cells - 1) cells) e
    (reads_row (operand_at cell) cells rest)
    (λ i. placed_within (at + 4) (i.cells - 1) high cells rest (omega arith))

-- ---- no fault

pub both_none : (a b : Option Fault) → or_else a b ≡ None → (a ≡ None) × (b ≡ None)
both_none None b e = (refl, e)
both_none (Some fault) b e = absurd (let no : ⊥ = cc in no)

none_of : (fault : Placed → Option Fault) (its : List Placed) → first_of fault its ≡ None
    → All (λ it. fault it ≡ None) its
none_of fault [] e = All-nil (λ it. fault it ≡ None)
none_of fault (it ∷ its) e =
    let h = both_none (fault it) (first_of fault its) e in
    All-cons (λ it. fault it ≡ None) it its h.0 (none_of fault its h.1)

pub all_proper : (code : List ℤ) (natives : ℕ) (entry : ℤ) (publics : List ℤ)
    → IsValid code natives entry publics
    → All (λ it. proper natives it ≡ None) (placed code)
all_proper code natives entry publics v =
    none_of (proper natives) (placed code) (both_none _ _ (both_none _ _ v).0).0

pub none_broken : (code : List ℤ) (natives : ℕ) (entry : ℤ) (publics : List ℤ)
    → IsValid code natives entry publics
    → broken (drop (cells_in (placed code)) code) (0 + 4 * cells_in (placed code)) ≡ None
none_broken code natives entry publics v = (both_none _ _ (both_none _ _ (both_none _ _ v).0).1).0

-- ---- the instruction at an address is one of them

found_by : (P : Placed → Type 0) (at : ℕ) (i : Instr) (it : Placed) (others : Option Placed)
    (b : Bool) → (it.at == at) ≡ b → P it
    → (option_map (λ (x : Placed). x.instr) others ≡ Some i → P (record { at = at; instr = i }))
    → option_map (λ (x : Placed). x.instr) (cond b (Some it) others) ≡ Some i
    → P (record { at = at; instr = i })
found_by P at i it others true e p rest h =
    let a : it.at ≡ at = eqb-true it.at at e in
    let j : it.instr ≡ i = cc in
    subst (λ x. P (record { at = at; instr = x })) j
    (subst (λ x. P (record { at = x; instr = it.instr })) a p)
found_by P at i it others false e p rest h = rest h

found_in : (P : Placed → Type 0) (at : ℕ) (i : Instr) (its : List Placed) → All P its
    → option_map (λ (x : Placed). x.instr) (find (λ it. it.at == at) its) ≡ Some i
    → P (record { at = at; instr = i })
found_in P at i [] h e = absurd (let no : ⊥ = cc in no)
found_in P at i (it ∷ its) h e =
    found_by P at i it (find (λ it. it.at == at) its) (it.at == at) refl (All-head P it its h)
    (λ k. found_in P at i its (All-tail P it its h) k) e

pub fetched_is : (P : Placed → Type 0) (code : List ℤ) (at : ℕ) (i : Instr) → All P (placed code)
    → fetched code at ≡ Some i
    → P (record { at = at; instr = i })
fetched_is P code at i h e = found_in P at i (placed code) h e

pub fetched_within : (code : List ℤ) (at : ℕ) (i : Instr) → All IsCell code
    → fetched code at ≡ Some i
    → IsWithin (4 * length code) (record { at = at; instr = i })
fetched_within code at i h e =
    fetched_is (IsWithin (4 * length code)) code at i
    (placed_within 0 0 (4 * length code) code h (omega arith)) e

-- ---- its operand is proper for its operation

agrees_by : {X : Type 0} (f g : Row → X) (b : Bool) (x row : Row) (others : Option Row) → f x ≡ g x
    → (others ≡ Some row → f row ≡ g row) → cond b (Some x) others ≡ Some row → f row ≡ g row
agrees_by f g true x row others e rest h = let j : x ≡ row = cc in subst (λ r. f r ≡ g r) j e
agrees_by f g false x row others e rest h = rest h

row_agrees : {X : Type 0} (f g : Row → X) (p : Row → Bool) (row : Row) (rows : List Row)
    → map f rows ≡ map g rows → find p rows ≡ Some row
    → f row ≡ g row
row_agrees f g p row [] e h = absurd (let no : ⊥ = cc in no)
row_agrees f g p row (x ∷ rows) e h =
    let a : f x ≡ g x = cc in
    let b : map f rows ≡ map g rows = cc in
    agrees_by f g (p x) x row (find p rows) a (λ k. row_agrees f g p row rows b k) h

kinds : map (λ (row : Row). row.operand) table ≡ map (λ (row : Row). operand_of row.op) table
kinds = refl

numbers : map (λ (row : Row). row.number) table ≡ map (λ (row : Row). number_of row.op) table
numbers = refl

-- the row of a cell has the number and the kind of operand of its operation, and the cell is that
-- number
pub kind_is : (cell : ℤ) (row : Row) → row_at cell ≡ Some row → row.operand ≡ operand_of row.op
unfolding row_at
kind_is cell row e =
    row_agrees (λ row. row.operand) (λ row. operand_of row.op) (has_number cell) row table kinds e

pub number_is : (cell : ℤ) (row : Row) → row_at cell ≡ Some row → row.number ≡ number_of row.op
unfolding row_at
number_is cell row e =
    row_agrees (λ row. row.number) (λ row. number_of row.op) (has_number cell) row table numbers e

tests_by : (p : Row → Bool) (b : Bool) (x row : Row) (others : Option Row) → p x ≡ b
    → (others ≡ Some row → p row ≡ true)
    → cond b (Some x) others ≡ Some row → p row ≡ true
tests_by p true x row others e rest h = let j : x ≡ row = cc in ap p (sym j) ∙ e
tests_by p false x row others e rest h = rest h

test_holds : (p : Row → Bool) (row : Row) (rows : List Row) → find p rows ≡ Some row → p row ≡ true
test_holds p row [] h = absurd (let no : ⊥ = cc in no)
test_holds p row (x ∷ rows) h =
    tests_by p (p x) x row (find p rows) refl (λ k. test_holds p row rows k) h

pub cell_is : (cell : ℤ) (row : Row) → row_at cell ≡ Some row → cell ≡ pos row.number
unfolding row_at
cell_is cell row e =
    sym ((Decides-int_eq (pos row.number) cell).0 (test_holds (has_number cell) row table e))

proper_by : (natives : ℕ) (o : Op) (v : ℤ) (at : ℕ) (r : Option Row)
    → ((row : Row) → r ≡ Some row → row.operand ≡ operand_of row.op)
    → op_by r ≡ Some o → row_fault natives r v at ≡ None
    → operand_fault natives (operand_of o) v at ≡ None
proper_by natives o v at None k e h = absurd (let no : ⊥ = cc in no)
proper_by natives o v at (Some row) k e h =
    let same : row.op ≡ o = cc in
    subst (λ x. operand_fault natives x v at ≡ None) (k row refl ∙ ap operand_of same) h

pub operand_proper : (natives : ℕ) (o : Op) (it : Placed) → op_of it.instr.op ≡ Some o
    → proper natives it ≡ None
    → operand_fault natives (operand_of o) it.instr.operand it.at ≡ None
operand_proper natives o it e h =
    proper_by natives o it.instr.operand it.at (row_of it.instr.op)
    (λ row k. kind_is (pos it.instr.op) row k) e h
