-- The code of every statement, by one recursion. Where it ends doesn't depend on where its exits
-- are.
use Rattle.std.specs.Prelude.{◌+◌, ℕ, ℤ, pos, List, [], ◌++◌, true, false}
use Rattle.pawn_meaning.specs.Program.{Perhaps, Absent, Present, Stmt, Block, Local, LocalArray, Do}
use Rattle.pawn_meaning.specs.Program.{If, While, DoWhile, For, Switch, Return, Break, Continue}
use Rattle.pawn_meaning.specs.Program.{Exit, Sleep, Assert, State, Empty, Else, no_else, otherwise}
use Rattle.pawn_meaning.specs.Program.{Cases, no_cases, then_case, Stmts, no_stmts, then_stmt}
use Rattle.pawn_meaning.specs.Scope.{Scope}
use Rattle.pawn_meaning.specs.ValidStmts.{slots_made, slots_made_by}
use Rattle.gen_sim.specs.Items.{Item, past}
use Rattle.gen_sim.specs.SimpleCode.{const_code}
use Rattle.gen_sim.specs.PushCode.{value_push, pushed_by}
use Rattle.gen_laws.specs.ExprCode.{value_items, effect_items}
use Rattle.gen_sim.specs.Here.{Here, behind, within}
use Rattle.gen_sim.specs.FlowCode.{leave_code, block_code, break_code, continue_code, return_code}
use Rattle.gen_sim.specs.FlowCode.{exit_code, assert_code}
use Rattle.gen_laws.specs.BranchItems.{jump_items, perhaps_jumps}
use Rattle.gen_sim.specs.LoopCode.{body_at}
use Rattle.gen_sim.specs.StateCode.{state_code, sleep_code}
use Rattle.gen_laws.specs.GoesOn.{dropped_by}
use Rattle.gen_laws.specs.MadeCode.{local_array_code}
use Rattle.gen_laws.specs.SwitchCode.{ranges_table, cases_at, case_code}
use Rattle.gen_laws.specs.ClosedCode.{closed_loop, closed_until, closed_if, closed_only}
use Rattle.gen_laws.specs.ClosedCode.{closed_switch}

-- an absent condition is 1
abbrev pub condition_items : Scope → ℕ → Perhaps → List Item
condition_items scope begin Absent = const_code (pos 1)
condition_items scope begin (Present e) = value_items scope begin e

-- and an absent step nothing
abbrev pub step_items : Scope → ℕ → Perhaps → List Item
step_items scope begin Absent = []
step_items scope begin (Present e) = effect_items scope begin e

abbrev mutual
  -- of one statement
  pub stmt_items : Here → ℕ → Stmt → List Item
  stmt_items here begin (Block stmts) =
      block_code here.scope.slots (dropped_by stmts) (stmts_items here begin stmts)
  stmt_items here begin (Local s e) =
      pushed_by (value_push here.scope e) (value_items here.scope begin e)
  stmt_items here begin (LocalArray s o) = local_array_code here.scope s o
  stmt_items here begin (Do e) = effect_items here.scope begin e
  stmt_items here begin (If c a no_else) =
      closed_only begin (λ to. jump_items here.scope false to begin c)
      (λ q. stmt_items here q a)
  stmt_items here begin (If c a (otherwise b)) =
      closed_if begin (λ to. jump_items here.scope false to begin c)
      (λ q. stmt_items here q a) (λ q. stmt_items here q b)
  stmt_items here begin (While c s) =
      closed_loop begin (λ q. jump_items here.scope true (body_at begin) q c)
      (λ exits. stmt_items (within exits here) (body_at begin) s) (λ q. [])
  stmt_items here begin (DoWhile s c) =
      closed_until begin (λ exits. stmt_items (within exits here) (begin + 4) s)
      (λ q. value_items here.scope q c)
  stmt_items here begin (For first c step s) =
      let init = stmts_items here begin first in
      let inner = behind (slots_made_by first) here in
      let top = past begin init in
      init ++ (closed_loop top (λ q. perhaps_jumps inner.scope true (body_at top) q c)
      (λ exits. stmt_items (within exits inner) (body_at top) s)
      (λ q. step_items inner.scope q step)
      ++ leave_code here.scope.slots (slots_made_by first))
  stmt_items here begin (Switch e cases d) =
      let value = value_items here.scope begin e in
      let first = cases_at (past begin value) cases in
      closed_switch (past begin value) cases value (cases_table here first cases)
      (λ end. cases_items here first end cases) (λ q. else_items here q d)
  stmt_items here begin (Return e) = return_code here (value_items here.scope begin e)
  stmt_items here begin Break = break_code here
  stmt_items here begin Continue = continue_code here
  stmt_items here begin (Exit e tag) = exit_code tag (value_items here.scope begin e)
  stmt_items here begin (Sleep e tag) = sleep_code tag (value_items here.scope begin e)
  stmt_items here begin (Assert e) = assert_code begin (value_items here.scope begin e)
  stmt_items here begin (State automaton state c) =
      state_code here.scope.program begin automaton state (condition_items here.scope begin c)
  stmt_items here begin Empty = []

  -- of what stands behind `else`
  pub else_items : Here → ℕ → Else → List Item
  else_items here begin no_else = []
  else_items here begin (otherwise s) = stmt_items here begin s

  -- of cases, with the address behind the whole switch
  pub cases_items : Here → (begin end : ℕ) → Cases → List Item
  cases_items here begin end no_cases = []
  cases_items here begin end (then_case ranges s cases) =
      let one = stmt_items here begin s in
      case_code end one (cases_items here (past begin one + 8) end cases)

  -- and the pairs of their table
  pub cases_table : Here → ℕ → Cases → List ℤ
  cases_table here begin no_cases = []
  cases_table here begin (then_case ranges s cases) =
      ranges_table ranges begin ++ cases_table here (past begin (stmt_items here begin s) + 8) cases

  -- of a list
  pub stmts_items : Here → ℕ → Stmts → List Item
  stmts_items here begin no_stmts = []
  stmts_items here begin (then_stmt s stmts) =
      let first = stmt_items here begin s in
      first ++ stmts_items (behind (slots_made s) here) (past begin first) stmts

-- of a `for` behind what it does first
abbrev pub for_items : Here → ℕ → Perhaps → Perhaps → Stmt → List Item
for_items here top c step s =
    closed_loop top (λ q. perhaps_jumps here.scope true (body_at top) q c)
    (λ exits. stmt_items (within exits here) (body_at top) s)
    (λ q. step_items here.scope q step)
