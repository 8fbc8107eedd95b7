-- Items one behind another that are well, and the shapes of statements.
use Rattle.std.proofs.Common.{◌≡◌, ◌≢◌, ◌+◌, ◌*◌, ◌%◌, inl, inr, ℕ, zero, suc, ℤ, pos, ◌+ℤ◌, List}
use Rattle.std.proofs.Common.{[], ◌∷◌, ◌++◌, true, false, length, refl, sym, ap, subst, ◌∙◌}
use Rattle.std.proofs.Common.{arith}
use Rattle.std.proofs.lemmas.Int.{ints}
use Rattle.std.specs.Prelude.{neg_ℤ}
use Rattle.pawn_cells.specs.Cells.{bits_of}
use Rattle.pawn_meaning.specs.Program.{Slot, Cases}
use Rattle.pawn_meaning.specs.Weight.{values_in}
use Rattle.amx_ops.specs.declared.op.Op.{Op}
use Rattle.amx_ops.specs.declared.op.Op.TheVariants as op
use Rattle.amx_ops.specs.declared.table.Operand.{Operand}
use Rattle.amx_ops.specs.declared.table.Operand.TheVariants as operand
use Rattle.amx_ops.specs.Table.{operand_of}
use Rattle.gen_sim.specs.Items.{Item, Plain, CallOf, size, past}
use Rattle.gen_sim.specs.SimpleCode.{alone, taking}
use Rattle.gen_sim.specs.JumpCode.{jump_to, other_at, end_at, choice_code}
use Rattle.gen_sim.specs.TestCode.{Test, IsZero, IsSet, AreSame, AreOther, IsLess, IsAtMost}
use Rattle.gen_sim.specs.TestCode.{IsGreater, IsAtLeast, test_op}
use Rattle.gen_sim.specs.FlowCode.{made_cells, leave_code, else_at, if_code}
use Rattle.gen_sim.specs.LoopCode.{body_at, step_at, loop_test, loop_end, loop_code, test_at}
use Rattle.gen_sim.specs.LoopCode.{until_end}
use Rattle.gen_sim.specs.LoopCode.{until_code}
use Rattle.gen_laws.specs.SwitchCode.{values_from, ranges_table, cases_values, table_item, cases_at}
use Rattle.gen_laws.specs.SwitchCode.{table_code}
use Rattle.gen_laws.specs.Fine.{LeadsBy, AreFine, AreClosed, StartsAt}
use Rattle.gen_laws.proofs.FineLaws.{starts_here, starts_end, starts_first, starts_rest, Nowhere}
use Rattle.gen_laws.proofs.FineItems.{is_call, alone_fine, multiple_fine, multiple_up}
use Rattle.gen_laws.specs.Well.{ArePairsLed, LeadsWith, IsWell, AreWell, TableAt, Holds}

-- ---- parts

pub no_call : (o : Op) → is_call o ≡ false → o ≢ op.Call
no_call o h e = clash (sym (ap is_call e) ∙ h)
  where
    clash : true ≡ false → ⊥
    clash z = cc

pub tables_first : (begin : ℕ) (is js : List Item) (at : ℕ) → TableAt begin is at
    → TableAt begin (is ++ js) at
tables_first begin [] js at h = elim h [ ]
tables_first begin (it ∷ is) js at (inl h) = inl h
tables_first begin (it ∷ is) js at (inr h) = inr (tables_first (begin + 4 * size it) is js at h)

pub tables_rest : (begin : ℕ) (is js : List Item) (at : ℕ) → TableAt (past begin is) js at
    → TableAt begin (is ++ js) at
tables_rest begin [] js at h = h
tables_rest begin (it ∷ is) js at h = inr (tables_rest (begin + 4 * size it) is js at h)

module _ (T U : ℕ → Type 0) where
  pub holds_first : (begin : ℕ) (is js : List Item) → Holds T U begin (is ++ js)
      → Holds T U begin is
  holds_first begin is js h = record {
    starts = λ at z. h.starts at (starts_first begin is js at z);
    tables = λ at z. h.tables at (tables_first begin is js at z);
  }

  pub holds_rest : (begin : ℕ) (is js : List Item) → Holds T U begin (is ++ js)
      → Holds T U (past begin is) js
  holds_rest begin is js h = record {
    starts = λ at z. h.starts at (starts_rest begin is js at z);
    tables = λ at z. h.tables at (tables_rest begin is js at z);
  }

  pub holds_next : (begin : ℕ) (it : Item) (items : List Item) → Holds T U begin (it ∷ items)
      → Holds T U (begin + 4 * size it) items
  holds_next begin it items h =
      record { starts = λ at z. h.starts at (inr z); tables = λ at z. h.tables at (inr z) }

  pub holds_here : (begin : ℕ) (items : List Item) → Holds T U begin items → T begin
  holds_here begin items h = h.starts begin (starts_here begin items)

  pub holds_end : (begin : ℕ) (items : List Item) → Holds T U begin items → T (past begin items)
  holds_end begin items h = h.starts (past begin items) (starts_end begin items)

  pub well_both : (natives : ℕ) (is js : List Item) → AreWell natives T U is
      → AreWell natives T U js → AreWell natives T U (is ++ js)
  well_both natives [] js h g = g
  well_both natives (it ∷ is) js h g = (h.0, well_both natives is js h.1 g)

  leads_with : (S : ℕ → Type 0) → ((at : ℕ) → S at → T at)
      → (kind : Operand) (v : ℤ) (table : List ℤ) → LeadsBy S kind v → LeadsWith T U kind v table
  leads_with S f operand.Target v table h = (h.0, h.1, f h.0 h.2)
  leads_with S f operand.Relative v table h = elim h [ ]
  leads_with S f operand.CaseTable v table h = elim h [ ]
  leads_with S f operand.Cases v table h = elim h [ ]
  leads_with S f operand.Nothing v table h = tt
  leads_with S f operand.AnyCell v table h = tt
  leads_with S f operand.ByteCount v table h = tt
  leads_with S f operand.Register v table h = tt
  leads_with S f operand.SetRegister v table h = tt
  leads_with S f operand.Multiple v table h = tt
  leads_with S f operand.Length v table h = tt
  leads_with S f operand.CellsLength v table h = tt
  leads_with S f operand.NativeNumber v table h = tt

  -- items of expressions
  pub fine_well : (natives : ℕ) (S : ℕ → Type 0) → ((at : ℕ) → S at → T at) → (items : List Item)
      → AreFine natives S items → AreWell natives T U items
  fine_well natives S f [] h = tt
  fine_well natives S f (Plain it ∷ items) h = (
    (h.0.0, h.0.1, h.0.2, leads_with S f (operand_of it.op) it.operand it.table h.0.3),
    fine_well natives S f items h.1,
  )
  fine_well natives S f (CallOf g ∷ items) h = (tt, fine_well natives S f items h.1)

  pub own_well : (natives : ℕ) (items : List Item) → AreFine natives Nowhere items
      → AreWell natives T U items
  own_well natives items h = fine_well natives Nowhere (λ at z. absurd z) items h

  pub closed_well : (natives begin : ℕ) (items : List Item) → AreClosed natives begin items
      → Holds T U begin items → AreWell natives T U items
  closed_well natives begin items h g = fine_well natives (StartsAt begin items) g.starts items h

  pub jump_well : (natives : ℕ) (o : Op) (to : ℕ) → operand_of o ≡ operand.Target
      → is_call o ≡ false → T to → IsWell natives T U (jump_to o to)
  jump_well natives o to k c h = rw k ((tt, refl), no_call o c, λ at. refl, (to, refl, h))

-- behind a case table
pub table_holds : (T U : ℕ → Type 0) (p : ℕ) (cases : Cases) (other : ℕ) (table : List ℤ)
    (items : List Item) → length table ≡ 2 * cases_values cases
    → Holds T U p (table_code p cases other table items) → Holds T U (cases_at p cases) items
table_holds T U p cases other table items count h =
    let switch = taking op.Switch (pos (p + 8)) in
    let entry = table_item (cases_values cases) other table in
    let at : p + 8 + 4 * size entry ≡ cases_at p cases = omega (arith, count) in
    subst (λ q. Holds T U q items) at
    (holds_next T U (p + 8) entry items (holds_next T U p switch (entry ∷ items) h))

-- ---- own items

multiple_down : (m n : ℕ) → m ≡ 4 * n → bits_of (neg_ℤ (pos m)) % 4 ≡ 0
multiple_down zero n e = omega (arith, ints)
multiple_down (suc m) n e = omega (arith, ints, e)

module _ (natives : ℕ) where
  pub leave_fine : (slots : List Slot) (made : List ℕ)
      → AreFine natives Nowhere (leave_code slots made)
  leave_fine slots [] = tt
  leave_fine slots (s ∷ made) = (
    multiple_fine natives Nowhere op.Stack (pos (4 * made_cells slots (s ∷ made))) refl refl
        (multiple_up (made_cells slots (s ∷ made))),
    tt,
  )

  pub less_fine : (n : ℕ) → AreFine natives Nowhere (taking op.Stack (neg_ℤ (pos (4 * n))) ∷ [])
  less_fine n = (
    multiple_fine natives Nowhere op.Stack (neg_ℤ (pos (4 * n))) refl refl
        (multiple_down (4 * n) n refl),
    tt,
  )

-- ---- case tables

module _ (T : ℕ → Type 0) where
  pairs_both : (xs ys : List ℤ) → ArePairsLed T xs → ArePairsLed T ys → ArePairsLed T (xs ++ ys)
  pairs_both [] ys h g = g
  pairs_both (v ∷ []) ys h g = elim h [ ]
  pairs_both (v ∷ at ∷ xs) ys h g = (h.0, pairs_both xs ys h.1 g)

  values_led : (v : ℤ) (n at : ℕ) → T at → ArePairsLed T (values_from v n at)
  values_led v zero at h = tt
  values_led v (suc n) at h = ((at, refl, h), values_led (v +ℤ pos 1) n at h)

  ranges_led : (ranges : List (ℤ × ℤ)) (at : ℕ) → T at → ArePairsLed T (ranges_table ranges at)
  ranges_led [] at h = tt
  ranges_led (range ∷ ranges) at h =
      pairs_both (values_from range.0 (values_in range) at) (ranges_table ranges at)
      (values_led range.0 (values_in range) at h) (ranges_led ranges at h)

  pub case_led : (ranges : List (ℤ × ℤ)) (at : ℕ) (table : List ℤ) → T at → ArePairsLed T table
      → ArePairsLed T (ranges_table ranges at ++ table)
  case_led ranges at table h g =
      pairs_both (ranges_table ranges at) table (ranges_led ranges at h) g

-- ---- shapes

module _ (natives : ℕ) (T U : ℕ → Type 0) where
  pub choice_well : (p : ℕ) (first second : List Item) → Holds T U p (choice_code p first second)
      → (Holds T U (p + 8) first → AreWell natives T U first)
      → (Holds T U (other_at p first) second → AreWell natives T U second)
      → AreWell natives T U (choice_code p first second)
  choice_well p first second h one two =
      let jump = jump_to op.Jump (end_at p first second) in
      let h1 = holds_next T U p (jump_to op.Jzer (other_at p first)) (first ++ (jump ∷ second)) h in
      let h2 = holds_rest T U (p + 8) first (jump ∷ second) h1 in
      let h3 = holds_next T U (past (p + 8) first) jump second h2 in (
        jump_well T U natives op.Jzer (other_at p first) refl refl
            (holds_here T U (other_at p first) second h3),
        well_both T U natives first (jump ∷ second)
            (one (holds_first T U (p + 8) first (jump ∷ second) h1)) (
              jump_well T U natives op.Jump (end_at p first second) refl refl
                  (holds_end T U (other_at p first) second h3),
              two h3,
            ),
      )

  pub test_jump : (t : Test) (to : ℕ) → T to → IsWell natives T U (jump_to (test_op t) to)
  test_jump IsZero to h = jump_well T U natives op.Jzer to refl refl h
  test_jump IsSet to h = jump_well T U natives op.Jnz to refl refl h
  test_jump AreSame to h = jump_well T U natives op.Jeq to refl refl h
  test_jump AreOther to h = jump_well T U natives op.Jneq to refl refl h
  test_jump IsLess to h = jump_well T U natives op.Jsless to refl refl h
  test_jump IsAtMost to h = jump_well T U natives op.Jsleq to refl refl h
  test_jump IsGreater to h = jump_well T U natives op.Jsgrtr to refl refl h
  test_jump IsAtLeast to h = jump_well T U natives op.Jsgeq to refl refl h

  pub if_well : (begin : ℕ) (condition first second : List Item)
      → Holds T U begin (if_code begin condition first second)
      → (T (else_at (past begin condition) first) → Holds T U begin condition
      → AreWell natives T U condition)
      → (Holds T U (past begin condition) first → AreWell natives T U first)
      → (Holds T U (else_at (past begin condition) first) second → AreWell natives T U second)
      → AreWell natives T U (if_code begin condition first second)
  if_well begin condition first second h test one two =
      let p = past begin condition in
      let at = else_at p first in
      let jump = jump_to op.Jump (past at second) in
      let h1 = holds_rest T U begin condition (first ++ (jump ∷ second)) h in
      let h2 = holds_rest T U p first (jump ∷ second) h1 in
      let h3 = holds_next T U (past p first) jump second h2 in
      well_both T U natives condition (first ++ (jump ∷ second))
      (test (holds_here T U at second h3)
      (holds_first T U begin condition (first ++ (jump ∷ second)) h))
      (well_both T U natives first (jump ∷ second)
      (one (holds_first T U p first (jump ∷ second) h1))
      (jump_well T U natives op.Jump (past at second) refl refl (holds_end T U at second h3), two h3))

  pub only_well : (begin : ℕ) (condition first : List Item) → Holds T U begin (condition ++ first)
      → (T (past (past begin condition) first) → Holds T U begin condition
      → AreWell natives T U condition)
      → (Holds T U (past begin condition) first → AreWell natives T U first)
      → AreWell natives T U (condition ++ first)
  only_well begin condition first h test one =
      let h1 = holds_rest T U begin condition first h in
      well_both T U natives condition first
      (test (holds_end T U (past begin condition) first h1)
      (holds_first T U begin condition first h)) (one h1)

  -- the exits of a loop hold too
  pub loop_well : (top : ℕ) (test body step : List Item)
      → Holds T U top (loop_code top test body step)
      → (T (body_at top) → Holds T U (loop_test top body step) test → AreWell natives T U test)
      → (Holds T U (body_at top) body
      → T (loop_end top test body step) × T (step_at top body) → AreWell natives T U body)
      → (Holds T U (step_at top body) step → AreWell natives T U step)
      → AreWell natives T U (loop_code top test body step)
  loop_well top test body step h one two three =
      let start = jump_to op.Jump (loop_test top body step) in
      let h1 = holds_next T U top start (body ++ (step ++ test)) h in
      let h2 = holds_rest T U (body_at top) body (step ++ test) h1 in
      let h3 = holds_rest T U (step_at top body) step test h2 in (
        jump_well T U natives op.Jump (loop_test top body step) refl refl
            (holds_here T U (loop_test top body step) test h3),
        well_both T U natives body (step ++ test)
            (two (holds_first T U (body_at top) body (step ++ test) h1) (
              holds_end T U (loop_test top body step) test h3,
              holds_here T U (step_at top body) (step ++ test) h2,
            ))
            (well_both T U natives step test
            (three (holds_first T U (step_at top body) step test h2))
            (one (holds_here T U (body_at top) (body ++ (step ++ test)) h1) h3)),
      )

  pub until_well : (top : ℕ) (body test : List Item) → Holds T U top (until_code top body test)
      → (Holds T U (top + 4) body → T (until_end top body test) × T (test_at top body)
      → AreWell natives T U body)
      → (Holds T U (test_at top body) test → AreWell natives T U test)
      → AreWell natives T U (until_code top body test)
  until_well top body test h one two =
      let end = until_end top body test in
      let back = jump_to op.Jump top ∷ [] in
      let last = jump_to op.Jzer end ∷ back in
      let h1 = holds_next T U top (alone op.Nop) (body ++ (test ++ last)) h in
      let h2 = holds_rest T U (top + 4) body (test ++ last) h1 in
      let h3 = holds_rest T U (test_at top body) test last h2 in
      let h4 = holds_next T U (past (test_at top body) test) (jump_to op.Jzer end) back h3 in
      let at_end : T end = holds_end T U (past (test_at top body) test + 8) back h4 in (
        (own_well T U natives (alone op.Nop ∷ [])
            (alone_fine natives Nowhere op.Nop refl refl, tt)).0,
        well_both T U natives body (test ++ last)
            (one (holds_first T U (top + 4) body (test ++ last) h1)
            (at_end, holds_here T U (test_at top body) (test ++ last) h2))
            (well_both T U natives test last
            (two (holds_first T U (test_at top body) test last h2)) (
              jump_well T U natives op.Jzer end refl refl at_end,
              (
                jump_well T U natives op.Jump top refl refl
                    (holds_here T U top (until_code top body test) h),
                tt,
              ),
            )),
      )

  pub table_well : (p : ℕ) (cases : Cases) (other : ℕ) (table : List ℤ) (items : List Item)
      → length table ≡ 2 * cases_values cases
      → Holds T U p (table_code p cases other table items) → T other → ArePairsLed T table
      → AreWell natives T U items
      → AreWell natives T U (table_code p cases other table items)
  table_well p cases other table items count h default pairs rest =
      let switch = taking op.Switch (pos (p + 8)) in
      let entry = table_item (cases_values cases) other table in
      let h1 = holds_next T U p switch (entry ∷ items) h in (
        (
          (tt, refl),
          no_call op.Switch refl,
          λ z. refl,
          (p + 8, refl, h1.tables (p + 8) (inl (refl, refl))),
        ),
        (
          (
            omega (arith, count),
            no_call op.Casetbl refl,
            λ z. refl,
            ((other, refl, default), pairs),
          ),
          rest,
        ),
      )
