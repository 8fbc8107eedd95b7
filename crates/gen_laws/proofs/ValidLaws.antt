-- The code of a valid program has no fault.
use Rattle.std.proofs.Common.{◌≡◌, ◌+◌, ◌*◌, ◌^◌, ◌<◌, inl, inr, ℕ, zero, suc, ℤ, pos, negsuc, List}
use Rattle.std.proofs.Common.{[], ◌∷◌, ◌++◌, Option, None, Some, true, length, slice_get}
use Rattle.std.proofs.Common.{drop, map, refl, sym, subst, arith}
use Rattle.std.specs.Prelude.{All, IfSome, IfNone}
use Rattle.pawn_meaning.specs.Program.{Body, Route, Function, Automaton, Public, Program}
use Rattle.pawn_meaning.specs.Valid.{IsValid, IsValidFunction}
use Rattle.amx_ops.specs.Instructions.{is_start, placed, cells_in, Placed}
use Rattle.amx_ops.specs.Valid as machine
use Rattle.amx_ops.specs.Valid.{first_of, proper, linked, piece_fault, entry_fault, main_fault}
use Rattle.amx_ops.specs.Valid.{publics_fault, is_table}
use Rattle.gen_sim.proofs.Lists.{all_dropped}
use Rattle.gen_sim.specs.Items.{Item, size, past, AreWritten}
use Rattle.gen_laws.proofs.FaultLaws.{stand, all_cells}
use Rattle.gen_laws.specs.Well.{AreWell, TableAt}
use Rattle.gen_laws.specs.FunctionCode.{one_of, function_by, function_items}
use Rattle.gen_laws.specs.FileCode.{entry_of, program_items, code_of}
use Rattle.gen_laws.specs.Inner.{InnerAt}
use Rattle.gen_laws.proofs.FunctionWells.{written_of, program_well}
use Rattle.gen_laws.proofs.LayoutLaws.{split_at}
use Rattle.gen_laws.proofs.CalledProgram.{program_called}
use Rattle.gen_laws.specs.CodeIsValid.{main_by, publics_of}
use Rattle.gen_laws.proofs.StandLaws.{placed_are, proper_all, start_in, table_in}
use Rattle.gen_laws.proofs.LinkLaws.{linked_all}
use Rattle.gen_laws.proofs.ElementLaws.{got}

pub record There {A : Type 0} (xs : List A) (i : ℕ) : Type 0 where
  pub it : A
  pub is : slice_get xs i ≡ Some it

there_at : {A : Type 0} (xs : List A) (i : ℕ) → i < length xs → There xs i
there_at [] i h = absurd (omega (arith, h))
there_at (x ∷ xs) zero h = record { it = x; is = refl }
there_at (x ∷ xs) (suc i) h =
    let r = there_at xs i (omega (arith, h)) in record { it = r.it; is = r.is }

-- items begin where they do, where there are some
inner_at : (begin : ℕ) (before is after : List Item)
    → InnerAt (past begin before) is (past begin before)
    → InnerAt begin (before ++ (is ++ after)) (past begin before)
inner_at begin [] is after h = first_in begin is after begin h
  where
    first_in : (p : ℕ) (xs ys : List Item) (at : ℕ) → InnerAt p xs at → InnerAt p (xs ++ ys) at
    first_in p [] ys at k = elim k [ ]
    first_in p (x ∷ xs) ys at (inl k) = inl k
    first_in p (x ∷ xs) ys at (inr k) = inr (first_in (p + 4 * size x) xs ys at k)
inner_at begin (it ∷ before) is after h = inr (inner_at (begin + 4 * size it) before is after h)

module _ (program : Program) (valid : IsValid program)
    (few : All (λ (it : Automaton). length it.states < 2 ^ 31) program.automata) where
  abbrev items : List Item
  items = program_items program

  abbrev entry : ℕ → ℕ
  entry = entry_of program

  abbrev code : List ℤ
  code = code_of program

  abbrev natives : ℕ
  natives = length program.natives

  well : AreWell natives (InnerAt 0 items) (TableAt 0 items) items
  well =
      program_well (InnerAt 0 items) (TableAt 0 items) program valid.functions
      (record { starts = λ at z. z; tables = λ at z. z })

  whole : AreWritten items
  whole = written_of natives (InnerAt 0 items) (TableAt 0 items) items well

  -- ---- where functions are

  by_bodies : (function : Function) (begin : ℕ) (bodies : List Body) → length bodies ≡ 1
      → InnerAt begin (one_of program function begin bodies) begin
  by_bodies function begin [] h = absurd (omega (arith, h))
  by_bodies function begin (body ∷ bodies) h = inl refl

  by_dispatch : (function : Function) (begin : ℕ) (d : Option Route)
      → IfNone d (length function.bodies ≡ 1)
      → InnerAt begin (function_by program function begin d) begin
  by_dispatch function begin None h = by_bodies function begin function.bodies h
  by_dispatch function begin (Some route) h = inl refl

  entry_inner : (f : ℕ) → f < length program.functions → InnerAt 0 items (entry f)
  entry_inner f h =
      let at = there_at program.functions f h in
      let sound = got (IsValidFunction program) program.functions f at.it valid.functions at.is in
      let r = split_at program 8 program.functions f at.it at.is in
      let own = by_dispatch at.it (entry f) at.it.dispatch sound.one_body in
      inr (subst (λ l. InnerAt 8 l (entry f)) (sym r.is)
      (subst (λ q. InnerAt 8 (r.before ++ (function_items program (entry f) at.it ++ r.after)) q)
      r.at
      (inner_at 8 r.before (function_items program (entry f) at.it) r.after
      (subst (λ q. InnerAt q (function_items program (entry f) at.it) q) (sym r.at) own))))

  starts : (at : ℕ) → InnerAt 0 items at → is_start code at ≡ true
  starts at h = start_in entry items whole at h

  entry_starts : (f : ℕ) → f < length program.functions → is_start code (entry f) ≡ true
  entry_starts f h = starts (entry f) (entry_inner f h)

  -- ---- the code

  tables : (at : ℕ) → TableAt 0 items at → is_table (placed code) (pos at) ≡ true
  tables at h =
      subst (λ ps. is_table ps (pos at) ≡ true) (sym (placed_are entry items whole))
      (table_in entry 0 at items h)

  none_by : (its : List Placed) → placed code ≡ its → first_of (proper natives) its ≡ None
      → drop (cells_in its) code ≡ [] → first_of (linked (is_start code) 0 code) its ≡ None
      → piece_fault natives (is_start code) 0 code ≡ None
  none_by its e p r l = rw (e, p, r) l

  piece : piece_fault natives (is_start code) 0 code ≡ None
  piece =
      let its = stand entry 0 items in
      none_by its (placed_are entry items whole)
      (proper_all entry natives (InnerAt 0 items) (TableAt 0 items) 0 items well)
      (all_dropped code (cells_in its) (omega (arith, all_cells entry 0 items)))
      (linked_all (InnerAt 0 items) (TableAt 0 items) (is_start code) starts code tables entry
      (λ f. f < length program.functions) entry_starts natives 0 [] items refl
      (omega arith) well (program_called program valid few))

  -- ---- entries

  entry_none : (number : ℤ) (f : ℕ) → f < length program.functions
      → entry_fault code number (pos (entry f)) ≡ None
  entry_none number f h = rw (entry_starts f h) refl

  main_none : (o : Option ℕ) → IfSome o (λ f. f < length program.functions)
      → main_fault code (main_by program o) ≡ None
  main_none None h = refl
  main_none (Some f) h = entry_none (negsuc 0) f h

  publics_none : (publics : List Public)
      → All (λ (it : Public). it.function < length program.functions) publics → (n : ℕ)
      → publics_fault code n (map (λ (it : Public). pos (entry it.function)) publics) ≡ None
  publics_none [] h n = refl
  publics_none (it ∷ publics) h n =
      rw (entry_none (pos n) it.function (h 0 it (omega arith)))
      (publics_none publics (λ i d k. h (suc i) d (omega (arith, k))) (n + 1))

  pub program_valid : machine.IsValid code natives (main_by program program.entry)
      (publics_of program)
  program_valid =
      rw (piece, main_none program.entry valid.entry) (publics_none program.publics valid.publics 0)
