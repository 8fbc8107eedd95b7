-- In valid code one instruction stands behind the other, up to the code's end.
use Rattle.std.proofs.Common.{◌≡◌, ◌⊎◌, inl, inr, ◌+◌, ◌-◌, ◌*◌, ◌<◌, ◌≤◌, ◌==◌, ℕ, zero, suc, ℤ}
use Rattle.std.proofs.Common.{pos, negsuc, List, [], ◌∷◌, Bool, true, false, cond, Option, None, Some}
use Rattle.std.proofs.Common.{IfSome, find, is_some, length, drop, option_map, nat_le, refl, sym, ap}
use Rattle.std.proofs.Common.{subst, ◌∙◌, arith, length-drop}
use Rattle.std.proofs.lemmas.Bool.{eqb-true, eq-eqb, leb-true}
use Rattle.std.proofs.lemmas.List.Sums.{sum_by-cons}
use Rattle.amx_ops.specs.declared.instr.Instr.{Instr}
use Rattle.amx_ops.specs.declared.table.Operand.{Operand}
use Rattle.amx_ops.specs.declared.table.Operand.TheVariants as operand
use Rattle.amx_ops.specs.Table.{operand_at}
use Rattle.amx_ops.specs.Instructions.{Placed, placed, placed_from, placed_by, front, read_row}
use Rattle.amx_ops.specs.Instructions.{read_by, with_operand, with_cases, cells_in, fetched, is_start}
use Rattle.amx_ops.specs.Valid.{IsValid, broken, next_of}
use Rattle.gen_agrees.specs.Shape.{last_of}
use Rattle.amx_ops.proofs.FetchLaws.{none_broken}

-- ---- a whole instruction takes a cell or more, and no more than there are

record IsWhole (size : ℕ) (i : Instr) : Type 0 where
  some : 1 ≤ i.cells
  within : i.cells ≤ size

whole_operand : (n : ℕ) (cells : List ℤ)
    → IfSome (with_operand n cells) (IsWhole (suc (length cells)))
whole_operand n [] = tt
whole_operand n (v ∷ cells) = record { some = omega arith; within = omega arith }

whole_table : (n count size : ℕ) (pairs : List ℤ) (b : Bool)
    → nat_le (2 * count) (length pairs) ≡ b → size ≡ suc (suc (suc (length pairs)))
    → IfSome (cond b (Some (record { op = n; operand = pos count; cells = 3 + 2 * count })) None)
    (IsWhole size)
whole_table n count size pairs true e same =
    let k = leb-true (2 * count) (length pairs) e in
    record { some = omega arith; within = omega (arith, k, same) }
whole_table n count size pairs false e same = tt

whole_cases : (n : ℕ) (cells : List ℤ) → IfSome (with_cases n cells) (IsWhole (suc (length cells)))
whole_cases n [] = tt
whole_cases n (count ∷ []) = tt
whole_cases n (pos count ∷ default ∷ pairs) =
    whole_table n count (suc (length (pos count ∷ default ∷ pairs))) pairs
    (nat_le (2 * count) (length pairs)) refl refl
whole_cases n (negsuc count ∷ default ∷ pairs) = tt

whole_by : (n : ℕ) (kind : Operand) (cells : List ℤ)
    → IfSome (read_by n kind cells) (IsWhole (suc (length cells)))
whole_by n operand.Nothing cells = record { some = omega arith; within = omega arith }
whole_by n operand.Cases cells = whole_cases n cells
whole_by n kind cells = whole_operand n cells

whole_row : (row : Option (ℕ × Operand)) (cells : List ℤ)
    → IfSome (read_row row cells) (IsWhole (suc (length cells)))
whole_row None cells = tt
whole_row (Some row) cells = whole_by row.0 row.1 cells

-- ---- one behind the other

-- from an address on up to another
abbrev pub IsChain : ℕ → ℕ → List Placed → Type 0
IsChain at end [] = at ≡ end
IsChain at end (it ∷ its) = (it.at ≡ at) × (1 ≤ it.instr.cells) × IsChain (next_of it) end its

move_end : (at end other : ℕ) (its : List Placed) → end ≡ other → IsChain at end its
    → IsChain at other its
move_end at end other its e c = subst (λ n. IsChain at n its) e c

move_start : (at other end : ℕ) (its : List Placed) → at ≡ other → IsChain at end its
    → IsChain other end its
move_start at other end its e c = subst (λ n. IsChain n end its) e c

chain_by : (at end : ℕ) (o : Option Instr) (size : ℕ) (others : Instr → List Placed)
    → IfSome o (IsWhole (suc size)) → suc size ≤ cells_in (placed_by at o others)
    → ((i : Instr) → 1 ≤ i.cells → i.cells ≤ suc size → suc size ≤ i.cells + cells_in (others i)
    → IsChain (at + 4 * i.cells) end (others i))
    → IsChain at end (placed_by at o others)
chain_by at end None size others w all f = absurd (omega (arith, all))
chain_by at end (Some i) size others w all f =
    let it : Placed = record { at = at; instr = i } in
    let more = sum_by-cons (λ (x : Placed). x.instr.cells) it (others i) in
    (refl, w.some, f i w.some w.within (omega (arith, all, more)))

chain_from : (at passed : ℕ) (cells : List ℤ) → passed ≤ length cells
    → length cells ≤ passed + cells_in (placed_from at passed cells)
    → IsChain (at + 4 * passed) (at + 4 * length cells) (placed_from at passed cells)
chain_from at passed [] few all = omega (arith, few)
chain_from at (suc passed) (cell ∷ cells) few all =
    move_start (at + 4 + 4 * passed) (at + 4 * suc passed) (at + 4 * length (cell ∷ cells))
    (placed_from (at + 4) passed cells) (omega arith)
    (move_end (at + 4 + 4 * passed) (at + 4 + 4 * length cells) (at + 4 * length (cell ∷ cells))
    (placed_from (at + 4) passed cells) (omega arith)
    (chain_from (at + 4) passed cells (omega (arith, few)) (omega (arith, all))))
chain_from at zero (cell ∷ cells) few all =
    move_start at (at + 4 * zero) (at + 4 * length (cell ∷ cells))
    (placed_from at zero (cell ∷ cells)) (omega arith)
    (chain_by at (at + 4 * length (cell ∷ cells)) (front (cell ∷ cells)) (length cells)
    (λ i. placed_from (at + 4) (i.cells - 1) cells) (whole_row (operand_at cell) cells)
    (omega (arith, all))
    (λ i some within rest.
    move_start (at + 4 + 4 * (i.cells - 1)) (at + 4 * i.cells) (at + 4 * length (cell ∷ cells))
    (placed_from (at + 4) (i.cells - 1) cells) (omega (arith, some))
    (move_end (at + 4 + 4 * (i.cells - 1)) (at + 4 + 4 * length cells)
    (at + 4 * length (cell ∷ cells)) (placed_from (at + 4) (i.cells - 1) cells) (omega arith)
    (chain_from (at + 4) (i.cells - 1) cells (omega (arith, some, within))
    (omega (arith, some, rest))))))

nothing_left : (cells : List ℤ) (at : ℕ) → broken cells at ≡ None → length cells ≡ 0
nothing_left [] at e = refl
nothing_left (cell ∷ cells) at e = absurd (let no : ⊥ = cc in no)

-- all cells of valid code are those of its instructions
module _ (code : List ℤ) (natives : ℕ) (entry : ℤ) (publics : List ℤ)
    (valid : IsValid code natives entry publics) where
  pub chain : IsChain 0 (4 * length code) (placed code)
  chain =
      let none =
      nothing_left (drop (cells_in (placed code)) code) (0 + 4 * cells_in (placed code))
      (none_broken code natives entry publics valid) in
      move_end 0 (0 + 4 * length code) (4 * length code) (placed code) (omega arith)
      (chain_from 0 0 code (omega arith)
      (omega (arith, none, length-drop (cells_in (placed code)) code)))

-- ---- what stands behind an instruction

abbrev found : ℕ → List Placed → Option Instr
found a its = option_map (λ (it : Placed). it.instr) (find (λ it. it.at == a) its)

abbrev found_by : Bool → Placed → ℕ → List Placed → Option Instr
found_by b it a its =
    option_map (λ (x : Placed). x.instr) (cond b (Some it) (find (λ (x : Placed). x.at == a) its))

-- an instruction stands there, or the code ends there
abbrev IsThere : ℕ → ℕ → List Placed → Type 0
IsThere a end its = (a ≡ end) ⊎ (is_some (found a its) ≡ true)

there_by : (b : Bool) (it : Placed) (a : ℕ) (its : List Placed) → is_some (found a its) ≡ true
    → is_some (found_by b it a its) ≡ true
there_by true it a its h = refl
there_by false it a its h = h

there_behind : (it : Placed) (a end : ℕ) (its : List Placed) → IsThere a end its
    → IsThere a end (it ∷ its)
there_behind it a end its (inl e) = inl e
there_behind it a end its (inr h) = inr (there_by (it.at == a) it a its h)

there_first : (a end : ℕ) (its : List Placed) → IsChain a end its → IsThere a end its
there_first a end [] c = inl c
there_first a end (it ∷ its) c =
    inr (ap (λ b. is_some (found_by b it a its)) (eq-eqb it.at a c.0))

next_by : (b : Bool) (at a end : ℕ) (i : Instr) (it : Placed) (its : List Placed)
    → (it.at == a) ≡ b → IsChain at end (it ∷ its)
    → (found a its ≡ Some i → IsThere (a + 4 * i.cells) end its)
    → found_by b it a its ≡ Some i → IsThere (a + 4 * i.cells) end (it ∷ its)
next_by true at a end i it its e c f h =
    let here : it.at ≡ a = eqb-true it.at a e in
    let same : it.instr ≡ i = cc in
    let there : next_of it ≡ a + 4 * i.cells =
    ap (λ n. n + 4 * it.instr.cells) here ∙ ap (λ (x : Instr). a + 4 * x.cells) same in
    there_behind it (a + 4 * i.cells) end its
    (there_first (a + 4 * i.cells) end its (move_start (next_of it) (a + 4 * i.cells) end its there
    c.2))
next_by false at a end i it its e c f h = there_behind it (a + 4 * i.cells) end its (f h)

next_there : (at a end : ℕ) (i : Instr) (its : List Placed) → IsChain at end its
    → found a its ≡ Some i → IsThere (a + 4 * i.cells) end its
next_there at a end i [] c h = absurd (let no : ⊥ = cc in no)
next_there at a end i (it ∷ its) c h =
    next_by (it.at == a) at a end i it its refl c
    (λ k. next_there (next_of it) a end i its c.2 k) h

-- ---- the last one

chain_rises : (at end : ℕ) (its : List Placed) → IsChain at end its → at ≤ end
chain_rises at end [] c = omega (arith, c)
chain_rises at end (it ∷ its) c =
    omega (arith, c.0, c.1, chain_rises (next_of it) end its c.2)

last_behind : (it : Placed) (its : List Placed) (last : Placed) → last_of its ≡ Some last
    → last_of (it ∷ its) ≡ Some last
last_behind it [] last e = absurd (let no : ⊥ = cc in no)
last_behind it (next ∷ others) last e = e

last_alone : (a end : ℕ) (it : Placed) (its : List Placed) → IsChain a end its → a ≡ end
    → last_of (it ∷ its) ≡ Some it
last_alone a end it [] c e = refl
last_alone a end it (next ∷ others) c e =
    absurd (omega (arith, e, c.0, c.1, chain_rises (next_of next) end others c.2))

last_by : (b : Bool) (at a end : ℕ) (i : Instr) (it : Placed) (its : List Placed)
    → (it.at == a) ≡ b → IsChain at end (it ∷ its) → a + 4 * i.cells ≡ end
    → (found a its ≡ Some i → last_of its ≡ Some (record { at = a; instr = i }))
    → found_by b it a its ≡ Some i → last_of (it ∷ its) ≡ Some (record { at = a; instr = i })
last_by true at a end i it its e c there f h =
    let here : it.at ≡ a = eqb-true it.at a e in
    let same : it.instr ≡ i = cc in
    let ends : next_of it ≡ end =
    ap (λ n. n + 4 * it.instr.cells) here ∙ ap (λ (x : Instr). a + 4 * x.cells) same ∙ there in
    let is : it ≡ record { at = a; instr = i } =
    ap (λ n. record { at = n; instr = it.instr }) here
    ∙ ap (λ (x : Instr). record { at = a; instr = x }) same in
    last_alone (next_of it) end it its c.2 ends ∙ ap Some is
last_by false at a end i it its e c there f h =
    last_behind it its (record { at = a; instr = i }) (f h)

last_there : (at a end : ℕ) (i : Instr) (its : List Placed) → IsChain at end its
    → a + 4 * i.cells ≡ end → found a its ≡ Some i
    → last_of its ≡ Some (record { at = a; instr = i })
last_there at a end i [] c there h = absurd (let no : ⊥ = cc in no)
last_there at a end i (it ∷ its) c there h =
    last_by (it.at == a) at a end i it its refl c there
    (λ k. last_there (next_of it) a end i its c.2 there k) h

-- ---- of valid code

module _ (code : List ℤ) (natives : ℕ) (entry : ℤ) (publics : List ℤ)
    (valid : IsValid code natives entry publics) (a : ℕ) (i : Instr)
    (here : fetched code a ≡ Some i) where
  -- the code ends behind an instruction, or another one starts there
  pub behind : (a + 4 * i.cells ≡ 4 * length code) ⊎ (is_start code (a + 4 * i.cells) ≡ true)
  behind =
      next_there 0 a (4 * length code) i (placed code) (chain code natives entry publics valid) here

  -- where it ends, that is the last one
  pub last_is : a + 4 * i.cells ≡ 4 * length code
      → last_of (placed code) ≡ Some (record { at = a; instr = i })
  last_is there =
      last_there 0 a (4 * length code) i (placed code) (chain code natives entry publics valid)
      there here
