-- The step at the start of an instruction, by its row.
use Rattle.std.proofs.Common.{◌≡◌, ◌⊎◌, inl, inr, ◌∷◌, ◌+◌, ◌*◌, ◌/◌, ◌%◌, ◌<◌, ℕ, ℤ, pos, negsuc}
use Rattle.std.proofs.Common.{List, [], Bool, true, false, ◌||◌, ◌==◌, Option, None, Some, is_some}
use Rattle.std.proofs.Common.{find, option_map, length, drop, get_or, cond, nat_le, refl, sym, ap}
use Rattle.std.proofs.Common.{◌∙◌, arith, subst}
use Rattle.std.proofs.lemmas.Bool.{false≢true, eqb-true, or_cases}
use Rattle.std.proofs.lemmas.Option.{none-some}
use Rattle.std.proofs.lemmas.List.{drop_more, length-drop, get_or-drop}
use Rattle.std.proofs.lemmas.Bool.Decides.{Decides-int_eq}
use Rattle.pawn_cells.specs.Cells.{bits_of, equal}
use Rattle.amx_ops.specs.declared.amx.Amx.{Amx}
use Rattle.amx_ops.specs.declared.instr.Instr.{Instr}
use Rattle.amx_ops.specs.declared.op.Op.{Op}
use Rattle.amx_ops.specs.declared.table.Operand.{Operand}
use Rattle.amx_ops.specs.declared.table.Operand.TheVariants as operand
use Rattle.amx_ops.specs.Table.{Row, operand_by, op_of, row_at, row_of, operand_at}
use Rattle.amx_ops.specs.Instructions.{Placed, placed, fetched, front, is_start, read_by, read_row}
use Rattle.amx_ops.specs.Instructions.{with_operand, with_cases}
use Rattle.amx_ops.specs.Valid.{Fault, or_else, unless, first_of, proper, operand_fault, row_fault}
use Rattle.amx_ops.specs.Valid.{is_cases_kind, IsValid}
use Rattle.amx_ops.specs.State.{State, Errs}
use Rattle.amx_ops.specs.Step.{act, act_by, act_on, step}
use Rattle.amx_verify.specs.Kinds.{StartsAs}
use Rattle.amx_verify.proofs.KindLaws.{number_of_read}
use Rattle.amx_step.specs.Machine.{Machine}
use Rattle.amx_step.specs.Groups.{row}
use Rattle.amx_step.specs.Done.{next_cell, operand_by as operand_in, size_by, acts, IsAt, HasNext}
use Rattle.amx_step.specs.Done.{IsReadyKind, IsReady}
use Rattle.amx_step.proofs.RowLaws.{row_is, row_again, cases_refused}

-- ---- valid code has proper operands

abbrev instr_or : Option Instr → Instr → Instr
instr_or None other = other
instr_or (Some i) other = i

some_instr : (i j : Instr) → Some i ≡ Some j → i ≡ j
some_instr i j e = ap (λ (o : Option Instr). instr_or o i) e

none_parts : (o p : Option Fault) → or_else o p ≡ None → (o ≡ None) × (p ≡ None)
none_parts None p e = (refl, e)
none_parts (Some f) p e = absurd (none-some f (sym e))

abbrev at_address : ℕ → List Placed → Option Instr
at_address a its = option_map (λ (it : Placed). it.instr) (find (λ (it : Placed). it.at == a) its)

proper_by : (natives a : ℕ) (i : Instr) (it : Placed) (its : List Placed) (b : Bool)
    → (it.at == a) ≡ b
    → option_map (λ (x : Placed). x.instr) (cond b (Some it) (find (λ (x : Placed). x.at == a) its))
    ≡ Some i
    → proper natives it ≡ None → (at_address a its ≡ Some i
    → proper natives (record { at = a; instr = i }) ≡ None)
    → proper natives (record { at = a; instr = i }) ≡ None
proper_by natives a i it its true t e good others =
    let same : it.instr ≡ i = some_instr it.instr i e in
    ap (λ n. proper natives (record { at = n; instr = i })) (sym (eqb-true it.at a t))
    ∙ ap (λ x. proper natives (record { at = it.at; instr = x })) (sym same) ∙ good
proper_by natives a i it its false t e good others = others e

proper_there : (natives a : ℕ) (i : Instr) (its : List Placed)
    → first_of (proper natives) its ≡ None → at_address a its ≡ Some i
    → proper natives (record { at = a; instr = i }) ≡ None
proper_there natives a i [] n e = absurd (none-some i e)
proper_there natives a i (it ∷ its) n e =
    let p = none_parts (proper natives it) (first_of (proper natives) its) n in
    proper_by natives a i it its (it.at == a) refl e p.0 (proper_there natives a i its p.1)

valid_there : (code : List ℤ) (natives : ℕ) (entry : ℤ) (publics : List ℤ) (a : ℕ) (i : Instr)
    → IsValid code natives entry publics → fetched code a ≡ Some i
    → proper natives (record { at = a; instr = i }) ≡ None
valid_there code natives entry publics a i valid e =
    proper_there natives a i (placed code) (none_parts _ _ (none_parts _ _ valid).0).0 e

-- ---- the kinds of operands

unless_none : (b : Bool) (f : Fault) → unless b f ≡ None → b ≡ true
unless_none true f e = refl
unless_none false f e = absurd (none-some f (sym e))

equal_is : (v w : ℤ) → equal v w ≡ true → v ≡ w
equal_is v w e = (Decides-int_eq v w).0 e

one_two_four : (v : ℤ) → (equal v (pos 1) || equal v (pos 2) || equal v (pos 4)) ≡ true
    → (v ≡ pos 1) ⊎ ((v ≡ pos 2) ⊎ (v ≡ pos 4))
one_two_four v e =
    elim (or_cases (equal v (pos 1) || equal v (pos 2)) (equal v (pos 4)) e) [
      | inr h ↦ inr (inr (equal_is v (pos 4) h))
      | inl t ↦ elim (or_cases (equal v (pos 1)) (equal v (pos 2)) t)
          [ inl h ↦ inl (equal_is v (pos 1) h) | inr h ↦ inr (inl (equal_is v (pos 2) h)) ]
    ]

module _ (m : Machine) (cells : List ℤ)
    (there : (x : ℤ) (xs : List ℤ) → cells ≡ x ∷ xs → (next_cell m ≡ x) × HasNext m) where
  ready_one : (kind : Operand) (n natives at : ℕ) (i : Instr) → with_operand n cells ≡ Some i
      → operand_fault natives kind i.operand at ≡ None
      → ((x : ℤ) → next_cell m ≡ x → HasNext m → operand_fault natives kind x at ≡ None
      → IsReadyKind m kind) → IsReadyKind m kind
  ready_one kind n natives at i e good go = by_cells cells refl e
    where
      by_cells : (xs : List ℤ) → cells ≡ xs → with_operand n xs ≡ Some i → IsReadyKind m kind
      by_cells [] c e = absurd (none-some i e)
      by_cells (x ∷ xs) c e =
          let t = there x xs c in
          let same = some_instr (record { op = n; operand = x; cells = 2 }) i e in
          go x t.0 t.1 (ap (λ (i : Instr). operand_fault natives kind i.operand at) same ∙ good)

  ready_kind : (kind : Operand) (n natives at : ℕ) (i : Instr) → read_by n kind cells ≡ Some i
      → operand_fault natives kind i.operand at ≡ None → IsReadyKind m kind
  ready_kind operand.Nothing n natives at i e good = tt
  ready_kind operand.AnyCell n natives at i e good =
      ready_one operand.AnyCell n natives at i e good (λ x c h f. h)
  ready_kind operand.ByteCount n natives at i e good =
      ready_one operand.ByteCount n natives at i e good
      (λ x c h f. (
        h,
        subst (λ v. (v ≡ pos 1) ⊎ ((v ≡ pos 2) ⊎ (v ≡ pos 4))) (sym c)
            (one_two_four x (unless_none _ _ f)),
      ))
  ready_kind operand.Register n natives at i e good =
      ready_one operand.Register n natives at i e good (λ x c h f. h)
  ready_kind operand.SetRegister n natives at i e good =
      ready_one operand.SetRegister n natives at i e good (λ x c h f. h)
  ready_kind operand.Multiple n natives at i e good =
      ready_one operand.Multiple n natives at i e good
      (λ x c h f. (
        h,
        subst (λ v. bits_of v % 4 ≡ 0) (sym c)
            (eqb-true (bits_of x % 4) 0 (unless_none _ _ f)),
      ))
  ready_kind operand.Length n natives at i e good =
      ready_one operand.Length n natives at i e good (λ x c h f. h)
  ready_kind operand.CellsLength n natives at i e good =
      ready_one operand.CellsLength n natives at i e good (λ x c h f. h)
  ready_kind operand.Target n natives at i e good =
      ready_one operand.Target n natives at i e good (λ x c h f. h)
  ready_kind operand.Relative n natives at i e good =
      ready_one operand.Relative n natives at i e good (λ x c h f. h)
  ready_kind operand.NativeNumber n natives at i e good =
      ready_one operand.NativeNumber n natives at i e good (λ x c h f. h)
  ready_kind operand.CaseTable n natives at i e good =
      ready_one operand.CaseTable n natives at i e good (λ x c h f. h)
  ready_kind operand.Cases n natives at i e good = tt

  -- ---- what the instruction that was read does

  does_one : (n : ℕ) (o : Op) → op_of n ≡ Some o → is_some (with_operand n cells) ≡ true
      → act_on m.amx (with_operand n cells) m.state
      ≡ act m.amx o (next_cell m) (m.state.cip + 4 * 2) m.state
  does_one n o again e = by_cells cells refl e
    where
      by_cells : (xs : List ℤ) → cells ≡ xs → is_some (with_operand n xs) ≡ true
          → act_on m.amx (with_operand n xs) m.state
          ≡ act m.amx o (next_cell m) (m.state.cip + 4 * 2) m.state
      by_cells [] c e = absurd (false≢true e)
      by_cells (x ∷ xs) c e =
          ap (λ p. act_by m.amx p x (m.state.cip + 4 * 2) m.state) again
          ∙ ap (λ v. act m.amx o v (m.state.cip + 4 * 2) m.state) (sym (there x xs c).0)

  does_table : (n : ℕ) (o : Op) → op_of n ≡ Some o
      → ((v : ℤ) (q : ℕ) → act m.amx o v q m.state ≡ Errs (pos 6))
      → (xs : List ℤ) → is_some (with_cases n xs) ≡ true
      → act_on m.amx (with_cases n xs) m.state ≡ Errs (pos 6)
  does_table n o again refused [] e = absurd (false≢true e)
  does_table n o again refused (count ∷ []) e = absurd (false≢true e)
  does_table n o again refused (negsuc count ∷ default ∷ pairs) e = absurd (false≢true e)
  does_table n o again refused (pos count ∷ default ∷ pairs) e =
      by_size (nat_le (2 * count) (length pairs)) e
    where
      table_of : Bool → Option Instr
      table_of b =
          cond b (Some (record { op = n; operand = pos count; cells = 3 + 2 * count })) None

      by_size : (b : Bool) → is_some (table_of b) ≡ true
          → act_on m.amx (table_of b) m.state ≡ Errs (pos 6)
      by_size true e =
          ap (λ p. act_by m.amx p (pos count) (m.state.cip + 4 * (3 + 2 * count)) m.state) again
          ∙ refused (pos count) _
      by_size false e = absurd (false≢true e)

  does_kind : (kind : Operand) (n : ℕ) (o : Op) → op_of n ≡ Some o
      → (is_cases_kind kind ≡ true → (v : ℤ) (q : ℕ) → act m.amx o v q m.state ≡ Errs (pos 6))
      → is_some (read_by n kind cells) ≡ true
      → act_on m.amx (read_by n kind cells) m.state
      ≡ act m.amx o (operand_in kind (next_cell m)) (m.state.cip + 4 * size_by kind) m.state
  does_kind operand.Nothing n o again refused e =
      ap (λ p. act_by m.amx p (pos 0) (m.state.cip + 4 * 1) m.state) again
  does_kind operand.AnyCell n o again refused e = does_one n o again e
  does_kind operand.ByteCount n o again refused e = does_one n o again e
  does_kind operand.Register n o again refused e = does_one n o again e
  does_kind operand.SetRegister n o again refused e = does_one n o again e
  does_kind operand.Multiple n o again refused e = does_one n o again e
  does_kind operand.Length n o again refused e = does_one n o again e
  does_kind operand.CellsLength n o again refused e = does_one n o again e
  does_kind operand.Target n o again refused e = does_one n o again e
  does_kind operand.Relative n o again refused e = does_one n o again e
  does_kind operand.NativeNumber n o again refused e = does_one n o again e
  does_kind operand.CaseTable n o again refused e = does_one n o again e
  does_kind operand.Cases n o again refused e =
      does_table n o again (refused refl) cells e ∙ sym (refused refl _ _)

-- ---- as the machine meets it

not_there : (amx : Amx) (s : State) (o : Option Instr) → is_some o ≡ false
    → act_on amx o s ≡ Errs (pos 6)
not_there amx s None e = refl
not_there amx s (Some i) e = absurd (false≢true (sym e))

-- where no instruction starts
pub no_start : (m : Machine) → is_start m.amx.code m.state.cip ≡ false
    → step m.amx m.state ≡ Errs (pos 6)
no_start m e = not_there m.amx m.state (fetched m.amx.code m.state.cip) e

module _ (m : Machine) (number entry : ℤ) (publics : List ℤ)
    (valid : IsValid m.amx.code (length m.amx.natives) entry publics)
    (at : IsAt m) (start : is_start m.amx.code m.state.cip ≡ true)
    (here : fetched m.amx.code m.state.cip ≡ front (drop (m.state.cip / 4) m.amx.code))
    (number_is : number ≡ get_or m.amx.code (m.state.cip / 4) (pos 0)) where
  abbrev code : List ℤ
  code = m.amx.code

  abbrev place : ℕ
  place = m.state.cip / 4

  abbrev behind : List ℤ
  behind = drop (place + 1) code

  inside : place < length code
  inside = omega (arith, at.0, at.1)

  read : fetched code m.state.cip ≡ read_row (operand_by (row_at number)) behind
  read =
      here ∙ ap front (drop_more code place (pos 0) inside)
      ∙ ap (λ (x : ℤ). read_row (operand_at x) behind) (sym number_is)

  there : (x : ℤ) (xs : List ℤ) → behind ≡ x ∷ xs → (next_cell m ≡ x) × HasNext m
  there x xs e =
      let plus : place + 1 + 0 ≡ place + 1 = omega arith in (
        ap (λ k. get_or code k (pos 0)) (sym plus) ∙ sym (get_or-drop (place + 1) code 0 (pos 0))
            ∙ ap (λ ys. get_or ys 0 (pos 0)) e,
        omega (arith, at.0, ap length e, length-drop (place + 1) code),
      )

  row_there : (o : Option Row) → row_at number ≡ o
      → IsReady m o × (act_on m.amx (read_row (operand_by o) behind) m.state ≡ acts m o)
  row_there None e = (tt, refl)
  row_there (Some it) e =
      let again = row_again number it e in
      let some : is_some (read_by it.number it.operand behind) ≡ true =
      ap is_some (sym (read ∙ ap (λ o. read_row (operand_by o) behind) e)) ∙ start in (
        ready_of (read_by it.number it.operand behind) refl some,
        does_kind m behind there it.operand it.number it.op
            (ap (λ (o : Option Row). op_in o) again)
            (λ k v q. cases_refused number it e k m.amx v q m.state) some,
      )
    where
      op_in : Option Row → Option Op
      op_in None = None
      op_in (Some r) = Some r.op

      ready_of : (o : Option Instr) → read_by it.number it.operand behind ≡ o → is_some o ≡ true
          → IsReadyKind m it.operand
      ready_of None f s = absurd (false≢true s)
      ready_of (Some i) f s =
          let found : fetched code m.state.cip ≡ Some i =
          read ∙ ap (λ o. read_row (operand_by o) behind) e ∙ f in
          let good : row_fault (length m.amx.natives) (row_of i.op) i.operand m.state.cip ≡ None =
          valid_there code (length m.amx.natives) entry publics m.state.cip i valid found in
          ready_kind m behind there it.operand it.number (length m.amx.natives) m.state.cip i f
          (ap (λ o. row_fault (length m.amx.natives) o i.operand m.state.cip)
          (sym (ap row_of (number_of_read it.operand it.number behind i f)
          ∙ row_again number it e)) ∙ good)

  pub ready : IsReady m (row number)
  ready = subst (IsReady m) (row_is number) (row_there (row_at number) refl).0

  pub step_is : step m.amx m.state ≡ acts m (row number)
  step_is =
      ap (λ o. act_on m.amx o m.state) read ∙ (row_there (row_at number) refl).1
      ∙ ap (acts m) (row_is number)

module _ (m : Machine) (number : ℕ) (entry : ℤ) (publics : List ℤ)
    (valid : IsValid m.amx.code (length m.amx.natives) entry publics)
    (starts : StartsAs m.amx.code m.state.cip number) where
  pub at_met : IsAt m
  at_met = (starts.within.0, omega (arith, starts.within.0, starts.within.1))

  pub ready_met : IsReady m (row (pos number))
  ready_met =
      ready m (pos number) entry publics valid at_met starts.start starts.here starts.cell

  pub step_met : step m.amx m.state ≡ acts m (row (pos number))
  step_met =
      step_is m (pos number) entry publics valid at_met starts.start starts.here starts.cell
