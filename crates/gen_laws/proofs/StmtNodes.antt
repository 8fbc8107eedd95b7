-- The code of every statement does what the statement means.
use Rattle.std.proofs.Common.{◌≡◌, ◌+◌, ℕ, ℤ, List, [], ◌++◌, Bool, true, false, refl, sym}
use Rattle.std.proofs.Common.{subst}
use Rattle.pawn_meaning.specs.Program.{Expr, Perhaps, Absent, Present, Stmt, Block, Local}
use Rattle.pawn_meaning.specs.Program.{LocalArray, Do, If, While, DoWhile, For, Switch, Return}
use Rattle.pawn_meaning.specs.Program.{Break, Continue, Exit, Sleep, Assert, State, Empty, Else}
use Rattle.pawn_meaning.specs.Program.{no_else, otherwise, Cases, no_cases, then_case, Stmts}
use Rattle.pawn_meaning.specs.Program.{no_stmts, then_stmt}
use Rattle.pawn_meaning.specs.Scope.{Scope}
use Rattle.pawn_meaning.specs.ValidExprs.{IsValidPerhaps}
use Rattle.pawn_meaning.specs.ValidStmts.{slots_made, slots_made_by, all_slots_made}
use Rattle.pawn_meaning.specs.ValidStmts.{all_slots_made_else, all_slots_made_in, all_slots_made_by}
use Rattle.pawn_meaning.specs.ValidStmts.{IsValidStmt, IsValidElse, AreValidCases, AreValidStmts}
use Rattle.gen_sim.specs.Items.{Item, past}
use Rattle.gen_sim.specs.Contract.{ValueCode}
use Rattle.gen_sim.specs.Site.{scene_at}
use Rattle.gen_sim.specs.Branch.{BranchCode}
use Rattle.pawn_meaning.specs.Meaning.{condition}
use Rattle.pawn_meaning.specs.Need.{perhaps_load}
use Rattle.gen_laws.specs.ExprCode.{value_items, effect_items}
use Rattle.gen_laws.proofs.ExprNodes.{value_does, push_does, effect_does}
use Rattle.gen_sim.specs.Here.{Exits, Here, behind, within}
use Rattle.gen_sim.specs.FlowCode.{leave_code, else_at}
use Rattle.gen_sim.specs.Flow.{StmtCode, StmtsCode, ElseCode, ConditionCode}
use Rattle.gen_sim.specs.Flow.{PerhapsCode}
use Rattle.gen_sim.proofs.FlowNodes.{empty_does, do_does, local_node_does, no_stmts_does}
use Rattle.gen_sim.proofs.FlowNodes.{then_stmt_does, no_else_does, otherwise_does, if_does}
use Rattle.gen_sim.proofs.FlowNodes.{only_if_does, exit_node_does, assert_does}
use Rattle.gen_laws.specs.BranchItems.{jump_items, perhaps_jumps}
use Rattle.gen_laws.proofs.BranchForms.{Does, jump_ends, jump_does}
use Rattle.gen_sim.proofs.LeaveNodes.{break_does, continue_does, return_does}
use Rattle.gen_sim.specs.LoopCode.{body_at, step_at, loop_test, loop_exits, test_at, until_exits}
use Rattle.gen_laws.proofs.GoesOnLaws.{block_node_does}
use Rattle.gen_sim.proofs.LoopNodes.{while_does, for_does}
use Rattle.gen_sim.proofs.UntilNodes.{do_while_does, absent_condition, present_condition}
use Rattle.gen_sim.proofs.UntilNodes.{absent_step, present_step, absent_branch, present_branch}
use Rattle.gen_sim.proofs.StateNodes.{state_does}
use Rattle.gen_sim.proofs.SleepNodes.{sleep_node_does}
use Rattle.gen_laws.proofs.ArrayNodes.{local_array_does}
use Rattle.gen_laws.specs.SwitchCode.{cases_at, switch_code}
use Rattle.gen_laws.specs.SwitchFlow.{CasesCode}
use Rattle.gen_laws.proofs.SwitchNodes.{no_cases_do, then_case_does, switch_does}
use Rattle.gen_laws.specs.ClosedCode.{unknown, closed_loop, closed_until}
use Rattle.gen_laws.specs.Fresh.{Fresh, Ready}
use Rattle.gen_laws.specs.StmtCode.{condition_items, step_items}
use Rattle.gen_laws.specs.StmtCode.{stmt_items, else_items}
use Rattle.gen_laws.specs.StmtCode.{cases_items, cases_table, stmts_items}
use Rattle.gen_laws.proofs.EndLaws.{loop_alike, until_alike, stmt_ends, cases_ends}
use Rattle.gen_laws.proofs.FreshLaws.{fresh_first, fresh_rest, fresh_behind, fresh_one, made_within}
use Rattle.gen_laws.proofs.FreshLaws.{made_within_by, makes_none, array_sized, state_takes}
use Rattle.gen_laws.proofs.FreshLaws.{state_small}

condition_does : (scope : Scope) (e : Perhaps) → IsValidPerhaps scope e → (begin : ℕ)
    → ConditionCode scope e begin (condition_items scope begin e)
condition_does scope Absent h begin = absent_condition scope begin
condition_does scope (Present e) h begin =
    present_condition scope begin e (value_items scope begin e) (value_does scope e h begin)

perhaps_does : (scope : Scope) (e : Perhaps) → IsValidPerhaps scope e → (when : Bool)
    (to begin : ℕ)
    → BranchCode scope (λ x fewer. condition (scene_at x) fewer e) (perhaps_load e) when to begin
    (perhaps_jumps scope when to begin e)
perhaps_does scope Absent h when to begin = absent_branch scope begin when to
perhaps_does scope (Present e) h when to begin =
    present_branch scope begin e when to (jump_items scope when to begin e)
    (jump_does scope e h when to begin)

step_does : (scope : Scope) (e : Perhaps) → IsValidPerhaps scope e → (begin : ℕ)
    → PerhapsCode scope e begin (step_items scope begin e)
step_does scope Absent h begin = absent_step scope begin
step_does scope (Present e) h begin =
    present_step scope begin e (effect_items scope begin e) (effect_does scope e h begin)

-- ---- the true exits in place of any

module _ (here : Here) (top : ℕ) (s : Stmt) where
  abbrev bodies : ℕ → Exits → List Item
  bodies at exits = stmt_items (within exits here) at s

  closed_while : (e : Expr) (test : ℕ → List Item) → slots_made s ≡ []
      → ((q : ℕ) → Does here.scope true (body_at top) q e (test q))
      → ((exits : Exits) → exits.looped ≡ true
      → StmtCode (within exits here) s (body_at top) (bodies (body_at top) exits))
      → StmtCode here (While e s) top (closed_loop top test (bodies (body_at top)) (λ q. []))
  closed_while e test none one part =
      let at = body_at top in
      let told = test (loop_test top (bodies at unknown) []) in
      let exits = loop_exits top told (bodies at unknown) [] in
      let ends = stmt_ends s (within unknown here) unknown exits at in
      let same = loop_alike top told (bodies at unknown) (bodies at exits) [] ends in
      while_does here top e s told (bodies at exits) none
      (subst (λ q. Does here.scope true at q e told) ends
      (one (loop_test top (bodies at unknown) [])))
      (subst (λ z. StmtCode (within z here) s at (bodies at exits)) same (part exits refl))

  closed_do : (e : Expr) (test : ℕ → List Item) → slots_made s ≡ []
      → ((q : ℕ) → ValueCode here.scope e q (test q))
      → ((exits : Exits) → exits.looped ≡ true
      → StmtCode (within exits here) s (top + 4) (bodies (top + 4) exits))
      → StmtCode here (DoWhile s e) top (closed_until top (bodies (top + 4)) test)
  closed_do e test none one part =
      let at = top + 4 in
      let more = test (test_at top (bodies at unknown)) in
      let exits = until_exits top (bodies at unknown) more in
      let ends = stmt_ends s (within unknown here) unknown exits at in
      let same = until_alike top (bodies at unknown) (bodies at exits) more ends in
      do_while_does here top s e (bodies at exits) more none
      (subst (λ z. StmtCode (within z here) s at (bodies at exits)) same (part exits refl))
      (subst (λ q. ValueCode here.scope e q more) ends (one (test_at top (bodies at unknown))))

module _ (here : Here) (begin : ℕ) (init : Stmts) (e step : Perhaps) (s : Stmt)
    (first : List Item) where
  abbrev inner : Here
  inner = behind (slots_made_by init) here

  abbrev top : ℕ
  top = past begin first

  closed_for : (test more : ℕ → List Item) → slots_made s ≡ []
      → StmtsCode here init begin first
      → ((q : ℕ) → BranchCode inner.scope (λ x fewer. condition (scene_at x) fewer e)
      (perhaps_load e) true (body_at top) q (test q))
      → ((exits : Exits) → exits.looped ≡ true
      → StmtCode (within exits inner) s (body_at top) (bodies inner top s (body_at top) exits))
      → ((q : ℕ) → PerhapsCode inner.scope step q (more q))
      → StmtCode here (For init e step s) begin
      (first ++ (closed_loop top test (bodies inner top s (body_at top)) more
      ++ leave_code here.scope.slots (slots_made_by init)))
  closed_for test more none zeroth one part three =
      let at = body_at top in
      let body = bodies inner top s at in
      let next = more (step_at top (body unknown)) in
      let told = test (loop_test top (body unknown) next) in
      let exits = loop_exits top told (body unknown) next in
      let ends = stmt_ends s (within unknown inner) unknown exits at in
      let same = loop_alike top told (body unknown) (body exits) next ends in
      for_does here begin init e step s first told (body exits) next none zeroth
      (subst (λ q. BranchCode inner.scope (λ x fewer. condition (scene_at x) fewer e)
      (perhaps_load e) true at (past q next) told) ends
      (one (loop_test top (body unknown) next)))
      (subst (λ z. StmtCode (within z inner) s at (body exits)) same (part exits refl))
      (subst (λ q. PerhapsCode inner.scope step q next) ends
      (three (step_at top (body unknown))))

-- with the address of what stands behind the cases
switch_by : (here : Here) (begin : ℕ) (e : Expr) (cases : Cases) (other : Else)
    (code items second : List Item) (table : List ℤ) (default : ℕ)
    → past (cases_at (past begin code) cases) items ≡ default → ValueCode here.scope e begin code
    → CasesCode here cases (cases_at (past begin code) cases) (past default second) items table
    → ElseCode here other default second
    → StmtCode here (Switch e cases other) begin
    (switch_code (past begin code) cases default code table (items ++ second))
switch_by here begin e cases other code items second table default same one two three =
    subst (λ z. StmtCode here (Switch e cases other) begin
    (switch_code (past begin code) cases z code table (items ++ second))) same
    (switch_does here begin e cases other code items second table one
    (subst (λ z. CasesCode here cases (cases_at (past begin code) cases)
    (past z second) items table) (sym same) two)
    (subst (λ z. ElseCode here other z second) (sym same) three))

-- ---- each statement

mutual
  pub stmt_does : (s : Stmt) (here : Here) (in_list : Bool)
      → IsValidStmt here.scope here.exits.looped in_list s
      → Ready here.scope.program here.scope.slots
      → Fresh here.scope (all_slots_made s) → (begin : ℕ)
      → StmtCode here s begin (stmt_items here begin s)
  stmt_does (Block stmts) here in_list h r f begin =
      block_node_does here begin stmts (stmts_items here begin stmts)
      (stmts_do stmts here h r f begin)
  stmt_does (Local s e) here in_list h r f begin =
      local_node_does here begin s e _ h.1 (fresh_one s f) h.2 (push_does here.scope e h.3 begin)
  stmt_does (LocalArray s o) here in_list h r f begin =
      let z = array_sized here.scope s o r h.1 in
      local_array_does here begin s o h.1 (fresh_one s f) z.first z.inner z.is
  stmt_does (Do e) here in_list h r f begin =
      do_does here begin e (effect_items here.scope begin e) (effect_does here.scope e h begin)
  stmt_does (If c a no_else) here in_list h r f begin =
      let p = past begin (jump_items here.scope false 0 begin c) in
      let first = stmt_items here p a in
      let end = past p first in
      let condition = jump_items here.scope false end begin c in
      let same = jump_ends here.scope c false begin 0 end in
      only_if_does here begin c a condition first
      (makes_none here.scope here.exits.looped a h.1)
      (subst (λ q. Does here.scope false (past q first) begin c condition) same
      (jump_does here.scope c h.0 false end begin))
      (subst (λ q. StmtCode here a q first) same
      (stmt_does a here false h.1 r (fresh_first (all_slots_made a) (all_slots_made_else no_else) f)
      p))
  stmt_does (If c a (otherwise b)) here in_list h r f begin =
      let p = past begin (jump_items here.scope false 0 begin c) in
      let first = stmt_items here p a in
      let at = else_at p first in
      let second = stmt_items here at b in
      let condition = jump_items here.scope false at begin c in
      let same = jump_ends here.scope c false begin 0 at in
      let other = otherwise b in
      if_does here begin c a other condition first second
      (makes_none here.scope here.exits.looped a h.1)
      (subst (λ q. Does here.scope false (else_at q first) begin c condition) same
      (jump_does here.scope c h.0 false at begin))
      (subst (λ q. StmtCode here a q first) same
      (stmt_does a here false h.1 r (fresh_first (all_slots_made a) (all_slots_made_else other) f)
      p))
      (subst (λ q. ElseCode here other (else_at q first) second) same
      (otherwise_does here at b second (makes_none here.scope here.exits.looped b h.2)
      (stmt_does b here false h.2 r (fresh_rest (all_slots_made a) (all_slots_made_else other) f)
      at)))
  stmt_does (While c s) here in_list h r f begin =
      closed_while here begin s c (λ q. jump_items here.scope true (body_at begin) q c)
      (makes_none here.scope true s h.1) (λ q. jump_does here.scope c h.0 true (body_at begin) q)
      (λ exits e. stmt_does s (within exits here) false
      (subst (λ b. IsValidStmt here.scope b false s) (sym e) h.1) r f (body_at begin))
  stmt_does (DoWhile s c) here in_list h r f begin =
      closed_do here begin s c (λ q. value_items here.scope q c) (makes_none here.scope true s h.0)
      (λ q. value_does here.scope c h.1 q)
      (λ exits e. stmt_does s (within exits here) false
      (subst (λ b. IsValidStmt here.scope b false s) (sym e) h.0) r f (begin + 4))
  stmt_does (For first c step s) here in_list h r f begin =
      let init = stmts_items here begin first in
      let inner = behind (slots_made_by first) here in
      let at = body_at (past begin init) in
      closed_for here begin first c step s init (λ q. perhaps_jumps inner.scope true at q c)
      (λ q. step_items inner.scope q step)
      (makes_none inner.scope true s h.3)
      (stmts_do first here h.0 r (fresh_first (all_slots_made_by first) (all_slots_made s) f) begin)
      (λ q. perhaps_does inner.scope c h.1 true at q)
      (λ exits e. stmt_does s (within exits inner) false
      (subst (λ b. IsValidStmt inner.scope b false s) (sym e) h.3) r
      (fresh_behind here.scope (slots_made_by first) (all_slots_made_by first) (all_slots_made s)
      (made_within_by first) f) (body_at (past begin init)))
      (λ q. step_does inner.scope step h.2 q)
  stmt_does (Switch e cases d) here in_list h r f begin =
      let value = value_items here.scope begin e in
      let first = cases_at (past begin value) cases in
      let default = past first (cases_items here first 0 cases) in
      let second = else_items here default d in
      let end = past default second in
      switch_by here begin e cases d value (cases_items here first end cases) second
      (cases_table here first cases) default
      (cases_ends cases here here.exits here.exits first end 0) (value_does here.scope e h.0 begin)
      (cases_do cases here h.1 r (fresh_first (all_slots_made_in cases) (all_slots_made_else d) f)
      first end)
      (else_does d here h.2 r (fresh_rest (all_slots_made_in cases) (all_slots_made_else d) f)
      default)
  stmt_does (Return e) here in_list h r f begin =
      return_does here begin e (value_items here.scope begin e) (value_does here.scope e h begin)
  stmt_does Break here in_list h r f begin = break_does here begin h
  stmt_does Continue here in_list h r f begin = continue_does here begin h
  stmt_does (Exit e tag) here in_list h r f begin =
      exit_node_does here begin e tag (value_items here.scope begin e)
      (value_does here.scope e h.0 begin)
  stmt_does (Sleep e tag) here in_list h r f begin =
      sleep_node_does here begin e tag (value_items here.scope begin e)
      (value_does here.scope e h.0 begin)
  stmt_does (Assert e) here in_list h r f begin =
      assert_does here begin e (value_items here.scope begin e) (value_does here.scope e h begin)
  stmt_does (State automaton state c) here in_list h r f begin =
      state_does here begin automaton state c (condition_items here.scope begin c) h.0
      (state_small here.scope automaton state r h.0)
      (state_takes here.scope automaton state r h.0) (condition_does here.scope c h.1 begin)
  stmt_does Empty here in_list h r f begin = empty_does here begin

  pub else_does : (other : Else) (here : Here) → IsValidElse here.scope here.exits.looped other
      → Ready here.scope.program here.scope.slots
      → Fresh here.scope (all_slots_made_else other) → (begin : ℕ)
      → ElseCode here other begin (else_items here begin other)
  else_does no_else here h r f begin = no_else_does here begin
  else_does (otherwise s) here h r f begin =
      otherwise_does here begin s (stmt_items here begin s)
      (makes_none here.scope here.exits.looped s h) (stmt_does s here false h r f begin)

  pub cases_do : (cases : Cases) (here : Here) → AreValidCases here.scope here.exits.looped cases
      → Ready here.scope.program here.scope.slots
      → Fresh here.scope (all_slots_made_in cases) → (begin end : ℕ)
      → CasesCode here cases begin end (cases_items here begin end cases)
      (cases_table here begin cases)
  cases_do no_cases here h r f begin end = no_cases_do here begin end
  cases_do (then_case ranges s cases) here h r f begin end =
      let one = stmt_items here begin s in
      let next = past begin one + 8 in
      then_case_does here begin end ranges s cases one (cases_items here next end cases)
      (cases_table here next cases) (makes_none here.scope here.exits.looped s h.1)
      (stmt_does s here false h.1 r (fresh_first (all_slots_made s) (all_slots_made_in cases) f)
      begin)
      (cases_do cases here h.2 r (fresh_rest (all_slots_made s) (all_slots_made_in cases) f)
      next end)

  pub stmts_do : (stmts : Stmts) (here : Here) → AreValidStmts here.scope here.exits.looped stmts
      → Ready here.scope.program here.scope.slots
      → Fresh here.scope (all_slots_made_by stmts) → (begin : ℕ)
      → StmtsCode here stmts begin (stmts_items here begin stmts)
  stmts_do no_stmts here h r f begin = no_stmts_does here begin
  stmts_do (then_stmt s stmts) here h r f begin =
      let first = stmt_items here begin s in
      let inner = behind (slots_made s) here in
      then_stmt_does here begin s stmts first (stmts_items inner (past begin first) stmts)
      (stmt_does s here true h.0 r (fresh_first (all_slots_made s) (all_slots_made_by stmts) f)
      begin)
      (stmts_do stmts inner h.1 r (fresh_behind here.scope (slots_made s) (all_slots_made s)
      (all_slots_made_by stmts) (made_within s) f) (past begin first))
