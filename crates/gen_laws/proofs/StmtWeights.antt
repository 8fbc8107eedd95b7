-- The code of each statement is within its weight, with twenty cells to spare for what stands
-- around it.
use Rattle.std.proofs.Common.{◌≡◌, ◌+◌, ◌*◌, ◌≤◌, ℕ, ℤ, pos, List, [], ◌∷◌, ◌++◌, Bool, true, false}
use Rattle.std.proofs.Common.{Option, None}
use Rattle.std.proofs.Common.{Some, refl, arith, length-append}
use Rattle.std.proofs.lemmas.List.Sums.{sum_by-cons}
use Rattle.pawn_cells.specs.Cells.{cell_of}
use Rattle.pawn_meaning.specs.Program.{Perhaps, Absent, Present, Stmt, Block, Local, LocalArray, Do}
use Rattle.pawn_meaning.specs.Program.{If, While, DoWhile, For, Switch, Return, Break, Continue}
use Rattle.pawn_meaning.specs.Program.{Exit, Sleep, Assert, State, Empty, Else, no_else, otherwise}
use Rattle.pawn_meaning.specs.Program.{Cases, no_cases, then_case, Stmts, no_stmts, then_stmt, Slot}
use Rattle.pawn_meaning.specs.Scope.{Scope}
use Rattle.pawn_meaning.specs.ValidStmts.{slots_made, slots_made_by}
use Rattle.pawn_meaning.specs.Weight.{perhaps_weight, stmt_weight, else_weight, cases_weight}
use Rattle.pawn_meaning.specs.Weight.{stmts_weight, ranges_weight, values_in, folds}
use Rattle.amx_ops.specs.declared.op.Op.TheVariants as op
use Rattle.amx_ops.specs.Written.{cells_of}
use Rattle.gen_sim.specs.Items.{Item, appended, item_cells, past}
use Rattle.gen_sim.proofs.ItemLaws.{count-append}
use Rattle.gen_sim.specs.SimpleCode.{alone, taking, const_code}
use Rattle.gen_sim.specs.JumpCode.{jump_to, other_at, end_at, choice_code}
use Rattle.gen_sim.specs.TestCode.{IsSet}
use Rattle.gen_sim.specs.Branch.{test_where}
use Rattle.gen_sim.proofs.TestLaws.{test_count}
use Rattle.gen_laws.specs.BranchItems.{jump_where, jump_items, perhaps_jumps}
use Rattle.gen_laws.proofs.BranchForms.{jump_light}
use Rattle.gen_laws.specs.GoesOn.{dropped_by}
use Rattle.gen_laws.specs.ExprCode.{value_items}
use Rattle.gen_sim.specs.Here.{Here, behind, within}
use Rattle.gen_sim.specs.FlowCode.{leave_code, else_at}
use Rattle.gen_sim.specs.LoopCode.{body_at, step_at, loop_test, loop_exits, loop_code, test_at}
use Rattle.gen_sim.specs.LoopCode.{until_end, until_exits, until_code}
use Rattle.gen_sim.specs.StateCode.{entry_of, enter_code, switched_code}
use Rattle.gen_laws.specs.SwitchCode.{values_of, cases_values, table_item, cases_at, table_code}
use Rattle.gen_laws.proofs.Counts.{count, choice_count}
use Rattle.gen_laws.proofs.WeightLaws.{value_light, effect_light}
use Rattle.gen_laws.proofs.PushLaws.{value_push_count}
use Rattle.gen_laws.specs.ClosedCode.{unknown}
use Rattle.gen_laws.specs.StmtCode.{condition_items, step_items, stmt_items, for_items, else_items}
use Rattle.gen_laws.specs.StmtCode.{cases_items, cases_table, stmts_items}
use Rattle.gen_laws.proofs.EndLaws.{length_table}

-- ---- own items

leave_count : (slots : List Slot) (made : List ℕ) → count (leave_code slots made) ≤ 2
leave_count slots [] = omega arith
leave_count slots (s ∷ made) = omega arith

enter_count : (f : Option ℕ) → count (enter_code f) ≤ 4
enter_count None = omega arith
enter_count (Some f) = omega arith

loop_count : (top : ℕ) (test body step : List Item)
    → count (loop_code top test body step) ≡ count test + count body + count step + 2
loop_count top test body step =
    omega (arith, count-append body (step ++ test), count-append step test)

until_count : (top : ℕ) (body test : List Item)
    → count (until_code top body test) ≡ count body + count test + 5
until_count top body test =
    let last = jump_to op.Jzer (until_end top body test) ∷ jump_to op.Jump top ∷ [] in
    omega (arith, count-append body (test ++ last), count-append test last)

ranges_weigh : (ranges : List (ℤ × ℤ)) → ranges_weight ranges ≡ 2 * values_of ranges
ranges_weigh [] = refl
ranges_weigh (range ∷ ranges) =
    omega (arith, sum_by-cons (λ (it : ℤ × ℤ). 2 * values_in it) range ranges, ranges_weigh ranges)

table_count : (here : Here) (p : ℕ) (cases : Cases) (other begin : ℕ) (items : List Item)
    → count (table_code p cases other (cases_table here begin cases) items)
    ≡ 5 + 2 * cases_values cases + count items
table_count here p cases other begin items =
    omega (
      arith,
      length_table here cases begin,
      length-append (cells_of (appended
          (table_item (cases_values cases) other (cases_table here begin cases))))
          (item_cells items),
    )

-- a value, its table, and what stands behind that
switch_count : (here : Here) (value : List Item) (p : ℕ) (cases : Cases) (other begin : ℕ)
    (items second : List Item)
    → count (value ++ table_code p cases other (cases_table here begin cases) (items ++ second))
    ≡ count value + 5 + 2 * cases_values cases + count items + count second
switch_count here value p cases other begin items second =
    omega (
      arith,
      count-append value
          (table_code p cases other (cases_table here begin cases) (items ++ second)),
      table_count here p cases other begin (items ++ second),
      count-append items second,
    )

condition_light : (scope : Scope) (e : Perhaps) (begin : ℕ)
    → count (condition_items scope begin e) ≤ perhaps_weight folds e + 2
condition_light scope Absent begin = omega arith
condition_light scope (Present e) begin = omega (arith, value_light scope e begin)

perhaps_light : (scope : Scope) (e : Perhaps) (when : Bool) (to begin : ℕ)
    → count (perhaps_jumps scope when to begin e) ≤ perhaps_weight folds e + 4
perhaps_light scope Absent when to begin =
    omega (
      arith,
      count-append (const_code (pos 1)) (jump_where when IsSet to ∷ []),
      test_count (test_where when IsSet) to [],
    )
perhaps_light scope (Present e) when to begin = omega (arith, jump_light scope e when to begin)

step_light : (scope : Scope) (e : Perhaps) (begin : ℕ)
    → count (step_items scope begin e) ≤ perhaps_weight folds e
step_light scope Absent begin = omega arith
step_light scope (Present e) begin = omega (arith, effect_light scope e begin)

-- ---- each statement

mutual
  pub stmt_light : (s : Stmt) (here : Here) (begin : ℕ)
      → count (stmt_items here begin s) + 20 ≤ stmt_weight folds s
  stmt_light (Block stmts) here begin =
      let leave = leave_code here.scope.slots (dropped_by stmts) in
      omega (
        arith,
        count-append (stmts_items here begin stmts) leave,
        leave_count here.scope.slots (dropped_by stmts),
        stmts_light stmts here begin,
      )
  stmt_light (Local s e) here begin =
      omega (
        arith,
        value_push_count here.scope e (value_items here.scope begin e),
        value_light here.scope e begin,
      )
  stmt_light (LocalArray s o) here begin = omega arith
  stmt_light (Do e) here begin = omega (arith, effect_light here.scope e begin)
  stmt_light (If c a no_else) here begin =
      let p = past begin (jump_items here.scope false 0 begin c) in
      let first = stmt_items here p a in
      let end = past p first in
      omega (
        arith,
        count-append (jump_items here.scope false end begin c) first,
        jump_light here.scope c false end begin,
        stmt_light a here p,
      )
  stmt_light (If c a (otherwise b)) here begin =
      let p = past begin (jump_items here.scope false 0 begin c) in
      let first = stmt_items here p a in
      let other = else_at p first in
      let second = stmt_items here other b in
      let condition = jump_items here.scope false other begin c in
      let jump = jump_to op.Jump (past (else_at (past begin condition) first) second) in
      omega (
        arith,
        count-append condition (first ++ (jump ∷ second)),
        count-append first (jump ∷ second),
        jump_light here.scope c false other begin,
        stmt_light a here p,
        stmt_light b here other,
      )
  stmt_light (While c s) here begin =
      let at = body_at begin in
      let one = stmt_items (within unknown here) at s in
      let test = jump_items here.scope true at (loop_test begin one []) c in
      let exits = loop_exits begin test one [] in
      omega (
        arith,
        loop_count begin test (stmt_items (within exits here) at s) [],
        jump_light here.scope c true at (loop_test begin one []),
        stmt_light s (within exits here) at,
      )
  stmt_light (DoWhile s c) here begin =
      let first = stmt_items (within unknown here) (begin + 4) s in
      let test = value_items here.scope (test_at begin first) c in
      let exits = until_exits begin first test in
      omega (
        arith,
        until_count begin (stmt_items (within exits here) (begin + 4) s) test,
        value_light here.scope c (test_at begin first),
        stmt_light s (within exits here) (begin + 4),
      )
  stmt_light (For first c step s) here begin =
      let made = slots_made_by first in
      let inner = behind made here in
      let init = stmts_items here begin first in
      let top = past begin init in
      let leave = leave_code here.scope.slots made in
      let at = body_at top in
      let one = stmt_items (within unknown inner) at s in
      let more = step_items inner.scope (step_at top one) step in
      let test = perhaps_jumps inner.scope true at (loop_test top one more) c in
      let exits = loop_exits top test one more in
      let body = stmt_items (within exits inner) at s in
      omega (
        arith,
        count-append init (for_items inner top c step s ++ leave),
        count-append (for_items inner top c step s) leave,
        loop_count top test body more,
        leave_count here.scope.slots made,
        stmts_light first here begin,
        perhaps_light inner.scope c true at (loop_test top one more),
        step_light inner.scope step (step_at top one),
        stmt_light s (within exits inner) at,
      )
  stmt_light (Switch e cases d) here begin =
      let value = value_items here.scope begin e in
      let first = cases_at (past begin value) cases in
      let default = past first (cases_items here first 0 cases) in
      let end = past default (else_items here default d) in
      omega (
        arith,
        switch_count here value (past begin value) cases default first
            (cases_items here first end cases) (else_items here default d),
        value_light here.scope e begin,
        cases_light cases here first end,
        else_light d here default,
      )
  stmt_light (Return e) here begin =
      let leave = leave_code here.scope.slots here.scope.made in
      omega (
        arith,
        count-append (value_items here.scope begin e) (leave ++ alone op.Retn ∷ []),
        count-append leave (alone op.Retn ∷ []),
        leave_count here.scope.slots here.scope.made,
        value_light here.scope e begin,
      )
  stmt_light Break here begin =
      let leave = leave_code here.scope.slots here.since in
      omega (
        arith,
        count-append leave (jump_to op.Jump here.exits.broke ∷ []),
        leave_count here.scope.slots here.since,
      )
  stmt_light Continue here begin =
      let leave = leave_code here.scope.slots here.since in
      omega (
        arith,
        count-append leave (jump_to op.Jump here.exits.continued ∷ []),
        leave_count here.scope.slots here.since,
      )
  stmt_light (Exit e tag) here begin =
      omega (
        arith,
        count-append (value_items here.scope begin e)
            (taking op.ConstAlt (cell_of tag) ∷ taking op.Halt (pos 1) ∷ []),
        value_light here.scope e begin,
      )
  stmt_light (Sleep e tag) here begin =
      omega (
        arith,
        count-append (value_items here.scope begin e)
            (taking op.ConstAlt (cell_of tag) ∷ taking op.Halt (pos 12) ∷ []),
        value_light here.scope e begin,
      )
  stmt_light (Assert e) here begin =
      let value = value_items here.scope begin e in
      let p = past begin value in
      let halt = taking op.Halt (pos 2) ∷ [] in
      omega (
        arith,
        count-append value (choice_code p [] halt),
        choice_count p [] halt,
        value_light here.scope e begin,
      )
  stmt_light (State automaton state c) here begin =
      let test = condition_items here.scope begin c in
      let p = past begin test in
      let entry = entry_of here.scope.program automaton state in
      let first = switched_code here.scope.program automaton state in
      omega (
        arith,
        count-append test (choice_code p first []),
        choice_count p first [],
        enter_count entry,
        condition_light here.scope c begin,
      )
  stmt_light Empty here begin = omega arith

  pub else_light : (other : Else) (here : Here) (begin : ℕ)
      → count (else_items here begin other) ≤ else_weight folds other
  else_light no_else here begin = omega arith
  else_light (otherwise s) here begin = omega (arith, stmt_light s here begin)

  -- with the pairs of their table
  pub cases_light : (cases : Cases) (here : Here) (begin end : ℕ)
      → count (cases_items here begin end cases) + 2 * cases_values cases ≤ cases_weight folds cases
  cases_light no_cases here begin end = omega arith
  cases_light (then_case ranges s cases) here begin end =
      let one = stmt_items here begin s in
      let next = past begin one + 8 in
      omega (
        arith,
        count-append one (jump_to op.Jump end ∷ cases_items here next end cases),
        ranges_weigh ranges,
        stmt_light s here begin,
        cases_light cases here next end,
      )

  pub stmts_light : (stmts : Stmts) (here : Here) (begin : ℕ)
      → count (stmts_items here begin stmts) ≤ stmts_weight folds stmts
  stmts_light no_stmts here begin = omega arith
  stmts_light (then_stmt s stmts) here begin =
      let first = stmt_items here begin s in
      let inner = behind (slots_made s) here in
      omega (
        arith,
        count-append first (stmts_items inner (past begin first) stmts),
        stmt_light s here begin,
        stmts_light stmts inner (past begin first),
      )
