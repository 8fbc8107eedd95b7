-- Instructions are read back from their code, and valid code is a list of instructions.
use Rattle.std.proofs.Common.{◌≡◌, ◌≢◌, ◌+◌, ◌-◌, ◌*◌, ◌≤◌, ◌++◌, ℕ, zero, suc, ℤ, pos, negsuc}
use Rattle.std.proofs.Common.{List, [], ◌∷◌, Bool, true, false, cond, All, Option, None, Some}
use Rattle.std.proofs.Common.{length, take, drop, nat_le, refl, sym, ap, subst, ◌∙◌, arith}
use Rattle.std.proofs.Common.{length-append, length-drop, leb-true}
use Rattle.std.specs.List.{flat_map}
use Rattle.std.proofs.lemmas.Bool.{le-leb}
use Rattle.std.proofs.lemmas.List.{append-nil, take-append-drop, length-take}
use Rattle.std.proofs.lemmas.List.Sums.{sum_by-cons}
use Rattle.std.proofs.lemmas.List.Elements.{All-nil, All-cons, All-head, All-tail}
use Rattle.amx_ops.specs.declared.op.Op.{Op}
use Rattle.amx_ops.specs.declared.instr.Instr.{Instr}
use Rattle.amx_ops.specs.declared.table.Operand.{Operand}
use Rattle.amx_ops.specs.declared.table.Operand.TheVariants as operand
use Rattle.amx_ops.specs.Table.{Row, row_at, number_of, operand_of, operand_at, operand_by}
use Rattle.amx_ops.specs.Instructions.{Placed, placed, placed_from, placed_by, front, read_row}
use Rattle.amx_ops.specs.Instructions.{read_by, with_operand, with_cases, cells_by, instr_by}
use Rattle.amx_ops.specs.Instructions.{cells_in, IsProper}
use Rattle.amx_ops.specs.Valid.{broken, IsValid}
use Rattle.amx_ops.specs.Written.{Written, cells_of, IsCounted, IsWrittenBy, IsWritten, read_as}
use Rattle.amx_ops.specs.Written.{places, IsCodeOf, CodeIsInstructions}
use Rattle.amx_ops.proofs.Rows.{row_is, placed_by_kind}
use Rattle.amx_ops.proofs.FetchLaws.{none_broken, kind_is, number_is, cell_is}

-- ---- read back

-- what is read of some cells in front of others: one instruction, and then what is read of those
abbrev pub Stands_first : (p n : ℕ) (v : ℤ) (cells rest : List ℤ) → Type 0
Stands_first p n v cells rest =
    placed_from p 0 (cells ++ rest)
    ≡ record { at = p; instr = record { op = n; operand = v; cells = length cells } }
    ∷ placed_from (p + 4 * length cells) 0 rest

-- cells that belong to the instruction before
passed_over : (p : ℕ) (xs rest : List ℤ)
    → placed_from p (length xs) (xs ++ rest) ≡ placed_from (p + 4 * length xs) 0 rest
passed_over p [] rest = ap (λ a. placed_from a 0 rest) (omega arith)
passed_over p (x ∷ xs) rest =
    passed_over (p + 4) xs rest ∙ ap (λ a. placed_from a 0 rest) (omega arith)

table_read : (n count : ℕ) (default : ℤ) (pairs rest : List ℤ) → length pairs ≡ 2 * count
    → with_cases n (pos count ∷ default ∷ (pairs ++ rest))
    ≡ Some (record { op = n; operand = pos count; cells = 3 + 2 * count })
table_read n count default pairs rest e =
    let k : nat_le (2 * count) (length (pairs ++ rest)) ≡ true =
    le-leb (2 * count) (length (pairs ++ rest)) (omega (arith, length-append pairs rest)) in
    rw k refl

placed_table : (p n : ℕ) (v : ℤ) (table rest : List ℤ)
    → operand_at (pos n) ≡ Some (n, operand.Cases) → IsCounted v table
    → placed_from p 0 (pos n ∷ v ∷ (table ++ rest))
    ≡ record { at = p; instr = record { op = n; operand = v; cells = suc (suc (length table)) } }
    ∷ placed_from (p + 4 * suc (suc (length table))) 0 rest
placed_table p n (pos count) [] rest e h = absurd (omega (arith, h))
placed_table p n (pos count) (default ∷ pairs) rest e h =
    let xs : List ℤ = pos count ∷ default ∷ pairs in
    let size : 3 + 2 * count ≡ suc (length xs) = omega (arith, h) in
    let even : length pairs ≡ 2 * count = omega (arith, h) in
    let first : front (pos n ∷ (xs ++ rest))
    ≡ Some (record { op = n; operand = pos count; cells = suc (length xs) }) =
    ap (λ r. read_row r (xs ++ rest)) e ∙ table_read n count default pairs rest even
    ∙ ap (λ m. Some (record { op = n; operand = pos count; cells = m })) size in
    let one : suc (length xs) - 1 ≡ length xs = omega arith in
    let next : (p + 4) + 4 * length xs ≡ p + 4 * suc (length xs) = omega arith in
    let others : placed_from (p + 4) (suc (length xs) - 1) (xs ++ rest)
    ≡ placed_from (p + 4 * suc (length xs)) 0 rest =
    ap (λ k. placed_from (p + 4) k (xs ++ rest)) one ∙ passed_over (p + 4) xs rest
    ∙ ap (λ a. placed_from a 0 rest) next in
    ap (λ o. placed_by p o (λ i. placed_from (p + 4) (i.cells - 1) (xs ++ rest))) first
    ∙ ap (λ its. record {
      at = p;
      instr = record
          { op = n; operand = pos count; cells = suc (length xs) };
    } ∷ its) others
placed_table p n (negsuc k) table rest e h = absurd h

pub instr_is : (n : ℕ) (v : ℤ) (kind : Operand) → IsProper kind v
    → instr_by n v kind ≡ record { op = n; operand = v; cells = length (cells_by n v kind) }
instr_is n v operand.Nothing h = rw h refl
instr_is n v operand.Cases h = absurd h
instr_is n v kind h = refl

-- an instruction without a table
pub placed_plain : (p n : ℕ) (v : ℤ) (kind : Operand) (table rest : List ℤ) → kind ≢ operand.Cases
    → operand_at (pos n) ≡ Some (n, kind)
    → IsProper kind v → table ≡ [] → Stands_first p n v (cells_by n v kind ++ table) rest
placed_plain p n v kind table rest h e proper none =
    let same : cells_by n v kind ++ table ≡ cells_by n v kind =
    ap (λ t. cells_by n v kind ++ t) none ∙ append-nil (cells_by n v kind) in
    rw same (placed_by_kind p n v kind rest h e
    ∙ ap (λ i. record { at = p; instr = i } ∷ placed_from (p + 4 * i.cells) 0 rest)
    (instr_is n v kind proper))

placed_by_form : (p n : ℕ) (v : ℤ) (kind : Operand) (table rest : List ℤ)
    → operand_at (pos n) ≡ Some (n, kind) → IsWrittenBy kind v table
    → Stands_first p n v (cells_by n v kind ++ table) rest
placed_by_form p n v operand.Cases table rest e h = placed_table p n v table rest e h
placed_by_form p n v kind table rest e h =
    placed_plain p n v kind table rest (λ same. let no : ⊥ = cc in no) e h.0 h.1

read_from : (p : ℕ) (its : List Written) → All IsWritten its
    → placed_from p 0 (flat_map cells_of its) ≡ places p its
read_from p [] h = refl
read_from p (it ∷ its) h =
    placed_by_form p (number_of it.op) it.operand (operand_of it.op) it.table
    (flat_map cells_of its) (row_is it.op) (All-head IsWritten it its h)
    ∙ ap (λ others. record { at = p; instr = read_as it } ∷ others)
    (read_from (p + 4 * length (cells_of it)) its (All-tail IsWritten it its h))

-- ---- valid code

-- the instruction in front of some cells, as it is written
record IsFront (i : Instr) (cells : List ℤ) : Type 0 where
  it : Written
  written : IsWritten it
  some : 1 ≤ i.cells
  within : i.cells ≤ length cells
  joined : cells_of it ++ drop i.cells cells ≡ cells

module _ (o : Op) (kind : Operand) (e : kind ≡ operand_of o) where
  -- the cells of its kind are those of its operation
  same_cells : (v : ℤ) (table cells : List ℤ) → cells_by (number_of o) v kind ++ table ≡ cells
      → cells_of (record { op = o; operand = v; table = table }) ≡ cells
  same_cells v table cells h = subst (λ k. cells_by (number_of o) v k ++ table ≡ cells) e h

  same_form : (v : ℤ) (table : List ℤ) → IsWrittenBy kind v table
      → IsWritten (record { op = o; operand = v; table = table })
  same_form v table h = subst (λ k. IsWrittenBy k v table) e h

  front_operand : (cells : List ℤ) (i : Instr)
      → ((v : ℤ) → cells_by (number_of o) v kind ≡ pos (number_of o) ∷ v ∷ [])
      → ((v : ℤ) → IsWrittenBy kind v [])
      → with_operand (number_of o) cells ≡ Some i → IsFront i (pos (number_of o) ∷ cells)
  front_operand [] i f g h = absurd (let no : ⊥ = cc in no)
  front_operand (v ∷ cells) i f g h =
      let same : record { op = number_of o; operand = v; cells = 2 } ≡ i = cc in
      subst (λ x. IsFront x (pos (number_of o) ∷ v ∷ cells)) same (record {
        it = record { op = o; operand = v; table = [] };
        written = same_form v [] (g v);
        some = omega arith;
        within = omega arith;
        joined =
            ap (λ xs. xs ++ cells) (same_cells v [] (pos (number_of o) ∷ v ∷ [])
            (append-nil (cells_by (number_of o) v kind) ∙ f v));
      })

  front_nothing : (cells : List ℤ) (i : Instr)
      → ((v : ℤ) → cells_by (number_of o) v kind ≡ pos (number_of o) ∷ [])
      → IsWrittenBy kind (pos 0) []
      → Some (record { op = number_of o; operand = pos 0; cells = 1 }) ≡ Some i
      → IsFront i (pos (number_of o) ∷ cells)
  front_nothing cells i f g h =
      let same : record { op = number_of o; operand = pos 0; cells = 1 } ≡ i = cc in
      subst (λ x. IsFront x (pos (number_of o) ∷ cells)) same (record {
        it = record { op = o; operand = pos 0; table = [] };
        written = same_form (pos 0) [] g;
        some = omega arith;
        within = omega arith;
        joined =
            ap (λ xs. xs ++ cells)
            (same_cells (pos 0) [] (pos (number_of o) ∷ [])
            (append-nil (cells_by (number_of o) (pos 0) kind) ∙ f (pos 0)));
      })

-- a case table has its default and its pairs
table_by : (o : Op) (count : ℕ) (default : ℤ) (pairs : List ℤ) (i : Instr) (b : Bool)
    → nat_le (2 * count) (length pairs) ≡ b → operand.Cases ≡ operand_of o
    → cond b (Some (record { op = number_of o; operand = pos count; cells = 3 + 2 * count })) None
    ≡ Some i
    → IsFront i (pos (number_of o) ∷ pos count ∷ default ∷ pairs)
table_by o count default pairs i false k e h = absurd (let no : ⊥ = cc in no)
table_by o count default pairs i true k e h =
    let same : record { op = number_of o; operand = pos count; cells = 3 + 2 * count } ≡ i = cc in
    let within = leb-true (2 * count) (length pairs) k in
    let size : length (take (2 * count) pairs) ≡ 2 * count =
    omega (arith, length-take (2 * count) pairs) in
    let three : 3 + 2 * count ≡ suc (suc (suc (2 * count))) = omega arith in
    let table : List ℤ = default ∷ take (2 * count) pairs in
    let cells : List ℤ = pos (number_of o) ∷ pos count ∷ default ∷ pairs in
    let counted : length table ≡ 1 + 2 * count = omega arith in
    let whole : (pos (number_of o) ∷ pos count ∷ table) ++ drop (3 + 2 * count) cells ≡ cells =
    ap (λ m. (pos (number_of o) ∷ pos count ∷ table) ++ drop m cells) three
    ∙ ap (λ xs. pos (number_of o) ∷ pos count ∷ default ∷ xs)
    (take-append-drop (2 * count) pairs) in
    subst (λ x. IsFront x cells) same (record {
      it = record { op = o; operand = pos count; table = table };
      written = same_form o operand.Cases e (pos count) table counted;
      some = omega arith;
      within = omega arith;
      joined =
          ap (λ xs. xs ++ drop (3 + 2 * count) cells)
          (same_cells o operand.Cases e (pos count) table
          (pos (number_of o) ∷ pos count ∷ table) refl)
          ∙ whole;
    })

front_table : (o : Op) (cells : List ℤ) (i : Instr) → operand.Cases ≡ operand_of o
    → with_cases (number_of o) cells ≡ Some i
    → IsFront i (pos (number_of o) ∷ cells)
front_table o [] i e h = absurd (let no : ⊥ = cc in no)
front_table o (count ∷ []) i e h = absurd (let no : ⊥ = cc in no)
front_table o (pos count ∷ default ∷ pairs) i e h =
    table_by o count default pairs i (nat_le (2 * count) (length pairs)) refl e h
front_table o (negsuc count ∷ default ∷ pairs) i e h = absurd (let no : ⊥ = cc in no)

front_by : (o : Op) (kind : Operand) (cells : List ℤ) (i : Instr) → kind ≡ operand_of o
    → read_by (number_of o) kind cells ≡ Some i
    → IsFront i (pos (number_of o) ∷ cells)
front_by o operand.Cases cells i e h = front_table o cells i e h
front_by o operand.Nothing cells i e h =
    front_nothing o operand.Nothing e cells i (λ v. refl) (refl, refl) h
front_by o kind cells i e h = front_operand o kind e cells i (λ v. refl) (λ v. (tt, refl)) h

front_of : (cell : ℤ) (cells : List ℤ) (i : Instr) (r : Option Row) → row_at cell ≡ r
    → read_row (operand_by r) cells ≡ Some i → IsFront i (cell ∷ cells)
front_of cell cells i None e h = absurd (let no : ⊥ = cc in no)
front_of cell cells i (Some row) e h =
    let number = number_is cell row e in
    subst (λ x. IsFront i (x ∷ cells)) (sym (cell_is cell row e ∙ ap pos number))
    (front_by row.op row.operand cells i (kind_is cell row e)
    (subst (λ n. read_by n row.operand cells ≡ Some i) number h))

-- instructions whose cells are these
record AreCellsOf (cells : List ℤ) : Type 0 where
  its : List Written
  written : All IsWritten its
  joined : flat_map cells_of its ≡ cells

list_by : (at : ℕ) (cells : List ℤ) (cell : ℤ) (o : Option Instr) → front (cell ∷ cells) ≡ o
    → suc (length cells) ≤ cells_in (placed_by at o (λ i. placed_from (at + 4) (i.cells - 1) cells))
    → ((passed : ℕ) → passed ≤ length cells
    → length cells ≤ passed + cells_in (placed_from (at + 4) passed cells)
    → AreCellsOf (drop passed cells))
    → AreCellsOf (cell ∷ cells)
list_by at cells cell None e h f = absurd (omega (arith, h))
list_by at cells cell (Some i) e h f =
    let first = front_of cell cells i (row_at cell) refl e in
    let count =
    sum_by-cons (λ (it : Placed). it.instr.cells) (record { at = at; instr = i })
    (placed_from (at + 4) (i.cells - 1) cells) in
    let others =
    f (i.cells - 1) (omega (arith, first.some, first.within))
    (omega (arith, first.some, count, h)) in
    let one : i.cells ≡ suc (i.cells - 1) = omega (arith, first.some) in
    record {
      its = first.it ∷ others.its;
      written = All-cons IsWritten first.it others.its first.written others.written;
      joined =
          ap (λ xs. cells_of first.it ++ xs)
          (others.joined ∙ sym (ap (λ m. drop m (cell ∷ cells)) one))
          ∙ first.joined;
    }

list_from : (at passed : ℕ) (cells : List ℤ) → passed ≤ length cells
    → length cells ≤ passed + cells_in (placed_from at passed cells)
    → AreCellsOf (drop passed cells)
list_from at zero [] h k = record { its = []; written = All-nil IsWritten; joined = refl }
list_from at (suc passed) [] h k = absurd (omega (arith, h))
list_from at (suc passed) (cell ∷ cells) h k =
    list_from (at + 4) passed cells (omega (arith, h)) (omega (arith, k))
list_from at zero (cell ∷ cells) h k =
    list_by at cells cell (front (cell ∷ cells)) refl (omega (arith, k))
    (λ passed. list_from (at + 4) passed cells)

-- where nothing is broken no cell is left
none_left : (cells : List ℤ) (at : ℕ) → broken cells at ≡ None → cells ≡ []
none_left [] at e = refl
none_left (cell ∷ cells) at e = absurd (let no : ⊥ = cc in no)

valid_list : (code : List ℤ) (natives : ℕ) (entry : ℤ) (publics : List ℤ)
    → IsValid code natives entry publics → AreCellsOf code
valid_list code natives entry publics v =
    let count = cells_in (placed code) in
    let whole = none_broken code natives entry publics v in
    let none : length (drop count code) ≡ 0 =
    ap length (none_left (drop count code) (0 + 4 * count) whole) in
    list_from 0 0 code (omega arith) (omega (arith, none, length-drop count code))

is_code_of : (its : List Written) (code : List ℤ) → All IsWritten its → flat_map cells_of its ≡ code
    → IsCodeOf its code
is_code_of its code h e =
    record {
      written = h;
      cells = e;
      placed = subst (λ c. placed c ≡ places 0 its) e (read_from 0 its h);
    }

pub code_is_instructions : CodeIsInstructions
code_is_instructions = record {
  valid =
      λ code natives entry publics v. let found = valid_list code natives entry publics v in
      (found.its, is_code_of found.its code found.written found.joined);
  read = λ its h. is_code_of its (flat_map cells_of its) h refl;
}
