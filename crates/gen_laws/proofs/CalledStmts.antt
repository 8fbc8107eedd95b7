-- The calls in the code of a valid statement.
use Rattle.std.proofs.Common.{◌+◌, ℕ, pos, List, [], ◌∷◌, ◌++◌, Bool, true, false, Option}
use Rattle.std.proofs.Common.{None, Some}
use Rattle.std.specs.Prelude.{IfSome}
use Rattle.pawn_cells.specs.Cells.{cell_of}
use Rattle.pawn_meaning.specs.Program.{Perhaps, Absent, Present, Slot, Stmt, Block, Local}
use Rattle.pawn_meaning.specs.Program.{LocalArray, Do, If, While, DoWhile, For, Switch, Return}
use Rattle.pawn_meaning.specs.Program.{Break, Continue, Exit, Sleep, Assert, State, Empty, Else}
use Rattle.pawn_meaning.specs.Program.{no_else, otherwise, Cases, no_cases, then_case, Stmts}
use Rattle.pawn_meaning.specs.Program.{no_stmts, then_stmt}
use Rattle.pawn_meaning.specs.Scope.{Scope}
use Rattle.pawn_meaning.specs.ValidExprs.{Takes, IsValidPerhaps}
use Rattle.pawn_meaning.specs.ValidStmts.{slots_made, slots_made_by, IsValidStmt, IsValidElse}
use Rattle.pawn_meaning.specs.ValidStmts.{AreValidCases, AreValidStmts}
use Rattle.amx_ops.specs.declared.op.Op.TheVariants as op
use Rattle.gen_sim.specs.Items.{Item, past}
use Rattle.gen_sim.specs.SimpleCode.{alone, taking}
use Rattle.gen_sim.specs.JumpCode.{jump_to, other_at, end_at, choice_code}
use Rattle.gen_laws.specs.BranchItems.{jump_items, perhaps_jumps}
use Rattle.gen_laws.proofs.BranchForms.{jump_called}
use Rattle.gen_laws.specs.GoesOn.{dropped_by}
use Rattle.gen_laws.specs.ExprCode.{value_items}
use Rattle.gen_sim.specs.Here.{Here, behind, within}
use Rattle.gen_sim.specs.FlowCode.{leave_code, else_at}
use Rattle.gen_sim.specs.LoopCode.{body_at, step_at, loop_test, loop_exits, loop_code, test_at}
use Rattle.gen_sim.specs.LoopCode.{until_end, until_exits, until_code}
use Rattle.gen_sim.specs.StateCode.{entry_of, enter_code, switched_code}
use Rattle.gen_laws.specs.SwitchCode.{cases_at, table_code}
use Rattle.gen_laws.specs.ClosedCode.{unknown}
use Rattle.gen_laws.specs.Fresh.{Ready}
use Rattle.gen_laws.specs.StmtCode.{condition_items, step_items, stmt_items, for_items, else_items}
use Rattle.gen_laws.specs.StmtCode.{cases_items, cases_table, stmts_items}
use Rattle.gen_laws.proofs.FreshLaws.{state_takes}
use Rattle.gen_laws.specs.Called.{AreCalled}
use Rattle.gen_laws.proofs.CalledItems.{both_called, choice_called, leave_called}
use Rattle.gen_laws.proofs.CalledExprs.{value_called, effect_called}
use Rattle.gen_laws.proofs.PushLaws.{pushed_called}
use Rattle.gen_sim.specs.PushCode.{value_push}

module _ (C : ℕ → Type 0) where
  -- ---- loops

  loop_called : (top : ℕ) (test body step : List Item) → AreCalled C test
      → AreCalled C body → AreCalled C step → AreCalled C (loop_code top test body step)
  loop_called top test body step h g k =
      both_called C body (step ++ test) g (both_called C step test k h)

  until_called : (top : ℕ) (body test : List Item) → AreCalled C body → AreCalled C test
      → AreCalled C (until_code top body test)
  until_called top body test h g =
      let last = jump_to op.Jzer (until_end top body test) ∷ jump_to op.Jump top ∷ [] in
      both_called C body (test ++ last) h (both_called C test last g tt)

  enter_called : (f : Option ℕ) → IfSome f C → AreCalled C (enter_code f)
  enter_called None h = tt
  enter_called (Some f) h = (h, tt)

  if_takes : (scope : Scope) → ((f : ℕ) (params : List Slot) → Takes scope.program f params → C f)
      → (o : Option ℕ)
      → IfSome o (λ f. Takes scope.program f []) → IfSome o C
  if_takes scope known None h = tt
  if_takes scope known (Some f) h = known f [] h

  -- ---- what may be absent

  module _ (scope : Scope) (known : (f : ℕ) (params : List Slot) → Takes scope.program f params
      → C f) where
    condition_called : (e : Perhaps) → IsValidPerhaps scope e → (begin : ℕ)
        → AreCalled C (condition_items scope begin e)
    condition_called Absent h begin = tt
    condition_called (Present e) h begin = value_called C scope known e h begin

    perhaps_called : (e : Perhaps) → IsValidPerhaps scope e → (when : Bool) (to begin : ℕ)
        → AreCalled C (perhaps_jumps scope when to begin e)
    perhaps_called Absent h when to begin = tt
    perhaps_called (Present e) h when to begin = jump_called C scope known e h when to begin

    step_called : (e : Perhaps) → IsValidPerhaps scope e → (begin : ℕ)
        → AreCalled C (step_items scope begin e)
    step_called Absent h begin = tt
    step_called (Present e) h begin = effect_called C scope known e h begin

  -- ---- each statement

  mutual
    pub stmt_called : (s : Stmt) (here : Here) (in_list : Bool)
        → IsValidStmt here.scope here.exits.looped in_list s
        → Ready here.scope.program here.scope.slots
        → ((f : ℕ) (params : List Slot) → Takes here.scope.program f params → C f) → (begin : ℕ)
        → AreCalled C (stmt_items here begin s)
    stmt_called (Block stmts) here in_list h r known begin =
        both_called C (stmts_items here begin stmts)
        (leave_code here.scope.slots (dropped_by stmts))
        (stmts_called stmts here h r known begin)
        (leave_called C here.scope.slots (dropped_by stmts))
    stmt_called (Local s e) here in_list h r known begin =
        pushed_called C (value_push here.scope e) (value_items here.scope begin e)
        (value_called C here.scope known e h.3 begin)
    stmt_called (LocalArray s o) here in_list h r known begin = tt
    stmt_called (Do e) here in_list h r known begin =
        effect_called C here.scope known e h begin
    stmt_called (If c a no_else) here in_list h r known begin =
        let p = past begin (jump_items here.scope false 0 begin c) in
        let first = stmt_items here p a in
        let end = past p first in
        both_called C (jump_items here.scope false end begin c) first
        (jump_called C here.scope known c h.0 false end begin)
        (stmt_called a here false h.1 r known p)
    stmt_called (If c a (otherwise b)) here in_list h r known begin =
        let p = past begin (jump_items here.scope false 0 begin c) in
        let first = stmt_items here p a in
        let other = else_at p first in
        let second = stmt_items here other b in
        let condition = jump_items here.scope false other begin c in
        let jump = jump_to op.Jump (past (else_at (past begin condition) first) second) in
        both_called C condition (first ++ (jump ∷ second))
        (jump_called C here.scope known c h.0 false other begin)
        (both_called C first (jump ∷ second) (stmt_called a here false h.1 r known p)
        (stmt_called b here false h.2 r known other))
    stmt_called (While c s) here in_list h r known begin =
        let at = body_at begin in
        let first = stmt_items (within unknown here) at s in
        let test = jump_items here.scope true at (loop_test begin first []) c in
        let exits = loop_exits begin test first [] in
        loop_called begin test (stmt_items (within exits here) at s) []
        (jump_called C here.scope known c h.0 true at (loop_test begin first []))
        (stmt_called s (within exits here) false h.1 r known at) tt
    stmt_called (DoWhile s c) here in_list h r known begin =
        let at = begin + 4 in
        let first = stmt_items (within unknown here) at s in
        let test = value_items here.scope (test_at begin first) c in
        let exits = until_exits begin first test in
        until_called begin (stmt_items (within exits here) at s) test
        (stmt_called s (within exits here) false h.0 r known at)
        (value_called C here.scope known c h.1 (test_at begin first))
    stmt_called (For init c step s) here in_list h r known begin =
        let made = slots_made_by init in
        let inner = behind made here in
        let zeroth = stmts_items here begin init in
        let top = past begin zeroth in
        let leave = leave_code here.scope.slots made in
        let at = body_at top in
        let first = stmt_items (within unknown inner) at s in
        let more = step_items inner.scope (step_at top first) step in
        let test = perhaps_jumps inner.scope true at (loop_test top first more) c in
        let exits = loop_exits top test first more in
        both_called C zeroth (for_items inner top c step s ++ leave)
        (stmts_called init here h.0 r known begin)
        (both_called C (for_items inner top c step s) leave
        (loop_called top test (stmt_items (within exits inner) at s) more
        (perhaps_called inner.scope known c h.1 true at (loop_test top first more))
        (stmt_called s (within exits inner) false h.3 r known at)
        (step_called inner.scope known step h.2 (step_at top first)))
        (leave_called C here.scope.slots made))
    stmt_called (Switch e cases d) here in_list h r known begin =
        let value = value_items here.scope begin e in
        let p = past begin value in
        let first = cases_at p cases in
        let default = past first (cases_items here first 0 cases) in
        let second = else_items here default d in
        let end = past default second in
        let items = cases_items here first end cases in
        both_called C value (table_code p cases default (cases_table here first cases)
        (items ++ second)) (value_called C here.scope known e h.0 begin)
        (both_called C items second (cases_called cases here h.1 r known first end)
        (else_called d here h.2 r known default))
    stmt_called (Return e) here in_list h r known begin =
        let leave = leave_code here.scope.slots here.scope.made in
        both_called C (value_items here.scope begin e) (leave ++ alone op.Retn ∷ [])
        (value_called C here.scope known e h begin)
        (both_called C leave (alone op.Retn ∷ [])
        (leave_called C here.scope.slots here.scope.made) tt)
    stmt_called Break here in_list h r known begin =
        let leave = leave_code here.scope.slots here.since in
        both_called C leave (jump_to op.Jump here.exits.broke ∷ [])
        (leave_called C here.scope.slots here.since) tt
    stmt_called Continue here in_list h r known begin =
        let leave = leave_code here.scope.slots here.since in
        both_called C leave (jump_to op.Jump here.exits.continued ∷ [])
        (leave_called C here.scope.slots here.since) tt
    stmt_called (Exit e tag) here in_list h r known begin =
        both_called C (value_items here.scope begin e)
        (taking op.ConstAlt (cell_of tag) ∷ taking op.Halt (pos 1) ∷ [])
        (value_called C here.scope known e h.0 begin) tt
    stmt_called (Sleep e tag) here in_list h r known begin =
        both_called C (value_items here.scope begin e)
        (taking op.ConstAlt (cell_of tag) ∷ taking op.Halt (pos 12) ∷ [])
        (value_called C here.scope known e h.0 begin) tt
    stmt_called (Assert e) here in_list h r known begin =
        let value = value_items here.scope begin e in
        let p = past begin value in
        let halt = taking op.Halt (pos 2) ∷ [] in
        both_called C value (choice_code p [] halt) (value_called C here.scope known e h begin)
        (choice_called C p [] halt tt tt)
    stmt_called (State automaton state c) here in_list h r known begin =
        let program = here.scope.program in
        let test = condition_items here.scope begin c in
        let p = past begin test in
        let first = switched_code program automaton state in
        both_called C test (choice_code p first []) (condition_called here.scope known c h.1 begin)
        (choice_called C p first [] (enter_called (entry_of program automaton state)
        (if_takes here.scope known (entry_of program automaton state)
        (state_takes here.scope automaton state r h.0))) tt)
    stmt_called Empty here in_list h r known begin = tt

    pub else_called : (other : Else) (here : Here) → IsValidElse here.scope here.exits.looped other
        → Ready here.scope.program here.scope.slots
        → ((f : ℕ) (params : List Slot) → Takes here.scope.program f params → C f) → (begin : ℕ)
        → AreCalled C (else_items here begin other)
    else_called no_else here h r known begin = tt
    else_called (otherwise s) here h r known begin = stmt_called s here false h r known begin

    pub cases_called : (cases : Cases) (here : Here)
        → AreValidCases here.scope here.exits.looped cases
        → Ready here.scope.program here.scope.slots
        → ((f : ℕ) (params : List Slot) → Takes here.scope.program f params → C f) → (begin end : ℕ)
        → AreCalled C (cases_items here begin end cases)
    cases_called no_cases here h r known begin end = tt
    cases_called (then_case ranges s cases) here h r known begin end =
        let one = stmt_items here begin s in
        let next = past begin one + 8 in
        both_called C one (jump_to op.Jump end ∷ cases_items here next end cases)
        (stmt_called s here false h.1 r known begin)
        (cases_called cases here h.2 r known next end)

    pub stmts_called : (stmts : Stmts) (here : Here)
        → AreValidStmts here.scope here.exits.looped stmts
        → Ready here.scope.program here.scope.slots
        → ((f : ℕ) (params : List Slot) → Takes here.scope.program f params → C f) → (begin : ℕ)
        → AreCalled C (stmts_items here begin stmts)
    stmts_called no_stmts here h r known begin = tt
    stmts_called (then_stmt s stmts) here h r known begin =
        let first = stmt_items here begin s in
        let inner = behind (slots_made s) here in
        both_called C first (stmts_items inner (past begin first) stmts)
        (stmt_called s here true h.0 r known begin)
        (stmts_called stmts inner h.1 r known (past begin first))
