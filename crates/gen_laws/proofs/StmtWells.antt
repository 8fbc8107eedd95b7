-- The code of each valid statement is well: it leads to itself, to its end, or to its exits.
use Rattle.std.proofs.Common.{◌≡◌, ◌+◌, ◌*◌, ℕ, ℤ, pos, List, [], ◌∷◌, ◌++◌, Option, None, Some}
use Rattle.std.proofs.Common.{Bool, true, false, length, refl, sym, subst}
use Rattle.pawn_cells.specs.Cells.{cell_of}
use Rattle.pawn_meaning.specs.Program.{Expr, Perhaps, Absent, Present, Stmt, Block, Local}
use Rattle.pawn_meaning.specs.Program.{LocalArray, Do, If, While, DoWhile, For, Switch, Return}
use Rattle.pawn_meaning.specs.Program.{Break, Continue, Exit, Sleep, Assert, State, Empty, Else}
use Rattle.pawn_meaning.specs.Program.{no_else, otherwise, Cases, no_cases, then_case, Stmts}
use Rattle.pawn_meaning.specs.Program.{no_stmts, then_stmt}
use Rattle.pawn_meaning.specs.Scope.{Scope}
use Rattle.pawn_meaning.specs.ValidExprs.{IsValidExpr, IsValidPerhaps}
use Rattle.pawn_meaning.specs.ValidStmts.{slots_made, slots_made_by, IsValidStmt, IsValidElse}
use Rattle.pawn_meaning.specs.ValidStmts.{AreValidCases, AreValidStmts}
use Rattle.amx_ops.specs.declared.op.Op.TheVariants as op
use Rattle.gen_sim.specs.Items.{Item, past}
use Rattle.gen_sim.specs.SimpleCode.{alone, taking, const_code}
use Rattle.gen_sim.specs.JumpCode.{jump_to, other_at, choice_code}
use Rattle.gen_sim.specs.PlaceItems.{object_address}
use Rattle.gen_laws.specs.GoesOn.{dropped_by}
use Rattle.gen_laws.specs.ExprCode.{value_items, effect_items}
use Rattle.gen_sim.specs.Here.{Exits, Here, behind, within}
use Rattle.gen_sim.specs.FlowCode.{leave_code, else_at}
use Rattle.gen_sim.specs.LoopCode.{body_at, step_at, loop_test, loop_exits, test_at}
use Rattle.gen_sim.specs.LoopCode.{until_exits}
use Rattle.gen_sim.specs.StateCode.{entry_of, automaton_cell, enter_code, switched_code}
use Rattle.gen_laws.specs.MadeCode.{array_cells}
use Rattle.gen_laws.specs.SwitchCode.{cases_at, case_code, table_code}
use Rattle.gen_laws.specs.Fine.{IsFine, AreFine}
use Rattle.gen_laws.proofs.FineLaws.{Nowhere, fine_both}
use Rattle.gen_laws.proofs.FineItems.{alone_fine, any_fine, length_fine}
use Rattle.gen_laws.proofs.Shapes.{const_fine}
use Rattle.gen_laws.proofs.ExprForms.{value_closed, effect_closed}
use Rattle.gen_laws.proofs.PushLaws.{value_push_closed}
use Rattle.gen_sim.specs.PushCode.{value_push, pushed_by}
use Rattle.gen_laws.specs.ClosedCode.{unknown}
use Rattle.gen_laws.specs.StmtCode.{condition_items, step_items, stmt_items, for_items, else_items}
use Rattle.gen_laws.specs.StmtCode.{cases_items, cases_table, stmts_items}
use Rattle.gen_laws.proofs.EndLaws.{loop_alike, until_alike, stmt_ends, cases_ends, length_table}
use Rattle.gen_laws.specs.Well.{AreWell, ArePairsLed, Holds}
use Rattle.gen_laws.proofs.WellLaws.{no_call, table_holds, holds_first, holds_rest, holds_next}
use Rattle.gen_laws.proofs.WellLaws.{holds_here, holds_end, well_both, own_well, closed_well}
use Rattle.gen_laws.proofs.WellLaws.{jump_well, leave_fine, less_fine, choice_well, loop_well}
use Rattle.gen_laws.specs.BranchItems.{jump_where, jump_items, perhaps_jumps}
use Rattle.gen_laws.proofs.BranchForms.{jump_ends, branch_well}
use Rattle.gen_sim.specs.TestCode.{IsSet}
use Rattle.gen_sim.specs.Branch.{test_where}
use Rattle.gen_laws.proofs.WellLaws.{test_jump, if_well, only_well, until_well, case_led}
use Rattle.gen_laws.proofs.WellLaws.{table_well}

-- ---- own items

module _ (natives : ℕ) where
  ends_fine : (tag how : ℤ) → AreFine natives Nowhere
      (taking op.ConstAlt tag ∷ taking op.Halt how ∷ [])
  ends_fine tag how = (
    any_fine natives Nowhere op.ConstAlt tag refl refl,
    (any_fine natives Nowhere op.Halt how refl refl, tt),
  )

  register_fine : IsFine natives Nowhere (taking op.Lctrl (pos 4))
  register_fine = ((tt, refl), no_call op.Lctrl refl, λ at. refl, tt)

  enter_fine : (f : Option ℕ) → AreFine natives Nowhere (enter_code f)
  enter_fine None = tt
  enter_fine (Some f) = (any_fine natives Nowhere op.PushC (pos 0) refl refl, (tt, tt))

-- something holds of where the loop around is left
abbrev pub Leaves : (ℕ → Type 0) → Exits → Type 0
Leaves T exits = exits.looped ≡ true → T exits.broke × T exits.continued

module _ (T U : ℕ → Type 0) where
  -- ---- expressions

  module _ (scope : Scope) where
    abbrev natives : ℕ
    natives = length scope.program.natives

    value_well : (e : Expr) → IsValidExpr scope e → (begin : ℕ)
        → Holds T U begin (value_items scope begin e)
        → AreWell natives T U (value_items scope begin e)
    value_well e h begin g =
        closed_well T U natives begin (value_items scope begin e) (value_closed scope e h begin) g

    effect_well : (e : Expr) → IsValidExpr scope e → (begin : ℕ)
        → Holds T U begin (effect_items scope begin e)
        → AreWell natives T U (effect_items scope begin e)
    effect_well e h begin g =
        closed_well T U natives begin (effect_items scope begin e) (effect_closed scope e h begin) g

    push_well : (e : Expr) → IsValidExpr scope e → (begin : ℕ)
        → Holds T U begin (pushed_by (value_push scope e) (value_items scope begin e))
        → AreWell natives T U (pushed_by (value_push scope e) (value_items scope begin e))
    push_well e h begin g =
        closed_well T U natives begin (pushed_by (value_push scope e) (value_items scope begin e))
        (value_push_closed natives scope begin e (value_items scope begin e)
        (value_closed scope e h begin)) g

    -- and items of the node's own behind one
    valued_well : (e : Expr) → IsValidExpr scope e → (begin : ℕ) (last : List Item)
        → AreFine natives Nowhere last
        → Holds T U begin (value_items scope begin e ++ last)
        → AreWell natives T U (value_items scope begin e ++ last)
    valued_well e h begin last f g =
        well_both T U natives (value_items scope begin e) last
        (value_well e h begin (holds_first T U begin (value_items scope begin e) last g))
        (own_well T U natives last f)

    condition_well : (e : Perhaps) → IsValidPerhaps scope e → (begin : ℕ)
        → Holds T U begin (condition_items scope begin e)
        → AreWell natives T U (condition_items scope begin e)
    condition_well Absent h begin g =
        own_well T U natives (const_code (pos 1)) (const_fine natives (pos 1))
    condition_well (Present e) h begin g = value_well e h begin g

    perhaps_well : (e : Perhaps) → IsValidPerhaps scope e → (when : Bool) (to begin : ℕ) → T to
        → Holds T U begin (perhaps_jumps scope when to begin e)
        → AreWell natives T U (perhaps_jumps scope when to begin e)
    perhaps_well Absent h when to begin at g =
        well_both T U natives (const_code (pos 1)) (jump_where when IsSet to ∷ [])
        (own_well T U natives (const_code (pos 1)) (const_fine natives (pos 1)))
        (test_jump natives T U (test_where when IsSet) to at, tt)
    perhaps_well (Present e) h when to begin at g = branch_well T U scope e h when to begin at g

    step_well : (e : Perhaps) → IsValidPerhaps scope e → (begin : ℕ)
        → Holds T U begin (step_items scope begin e)
        → AreWell natives T U (step_items scope begin e)
    step_well Absent h begin g = tt
    step_well (Present e) h begin g = effect_well e h begin g

  -- ---- each statement

  mutual
    pub stmt_well : (s : Stmt) (here : Here) (in_list : Bool)
        → IsValidStmt here.scope here.exits.looped in_list s → Leaves T here.exits → (begin : ℕ)
        → Holds T U begin (stmt_items here begin s)
        → AreWell (length here.scope.program.natives) T U (stmt_items here begin s)
    stmt_well (Block stmts) here in_list h out begin g =
        let items = stmts_items here begin stmts in
        let leave = leave_code here.scope.slots (dropped_by stmts) in
        well_both T U (length here.scope.program.natives) items leave
        (stmts_well stmts here h out begin (holds_first T U begin items leave g))
        (own_well T U (length here.scope.program.natives) leave
        (leave_fine (length here.scope.program.natives) here.scope.slots (dropped_by stmts)))
    stmt_well (Local s e) here in_list h out begin g =
        push_well here.scope e h.3 begin g
    stmt_well (LocalArray s o) here in_list h out begin g =
        let natives = length here.scope.program.natives in
        let n = array_cells here.scope s in
        own_well T U natives (stmt_items here begin (LocalArray s o)) (
          (less_fine natives n).0,
          (
            register_fine natives,
            (
              alone_fine natives Nowhere op.MoveAlt refl refl,
              (
                any_fine natives Nowhere op.ConstPri
                    (object_address here.scope.program o) refl refl,
                (length_fine natives Nowhere op.Movs (4 * n) refl refl, tt),
              ),
            ),
          ),
        )
    stmt_well (Do e) here in_list h out begin g = effect_well here.scope e h begin g
    stmt_well (If c a no_else) here in_list h out begin g =
        let p = past begin (jump_items here.scope false 0 begin c) in
        let first = stmt_items here p a in
        let end = past p first in
        let condition = jump_items here.scope false end begin c in
        let same = jump_ends here.scope c false begin end 0 in
        only_well (length here.scope.program.natives) T U begin condition first g
        (λ at k. branch_well T U here.scope c h.0 false end begin
        (subst (λ q. T (past q first)) same at) k)
        (λ k. stmt_well a here false h.1 out p (subst (λ q. Holds T U q first) same k))
    stmt_well (If c a (otherwise b)) here in_list h out begin g =
        let p = past begin (jump_items here.scope false 0 begin c) in
        let first = stmt_items here p a in
        let other = else_at p first in
        let second = stmt_items here other b in
        let condition = jump_items here.scope false other begin c in
        let same = jump_ends here.scope c false begin other 0 in
        if_well (length here.scope.program.natives) T U begin condition first second g
        (λ at k. branch_well T U here.scope c h.0 false other begin
        (subst (λ q. T (else_at q first)) same at) k)
        (λ k. stmt_well a here false h.1 out p (subst (λ q. Holds T U q first) same k))
        (λ k. stmt_well b here false h.2 out other
        (subst (λ q. Holds T U (else_at q first) second) same k))
    stmt_well (While c s) here in_list h out begin g =
        let at = body_at begin in
        let first = stmt_items (within unknown here) at s in
        let test = jump_items here.scope true at (loop_test begin first []) c in
        let exits = loop_exits begin test first [] in
        let body = stmt_items (within exits here) at s in
        let ends = stmt_ends s (within unknown here) unknown exits at in
        let same = loop_alike begin test first body [] ends in
        loop_well (length here.scope.program.natives) T U begin test body [] g
        (λ to k. branch_well T U here.scope c h.0 true at (loop_test begin first []) to
        (subst (λ q. Holds T U q test) (sym ends) k))
        (λ k z. stmt_well s (within exits here) false h.1
        (λ y. subst (λ e. T e.broke × T e.continued) (sym same) z) at k) (λ k. tt)
    stmt_well (DoWhile s c) here in_list h out begin g =
        let at = begin + 4 in
        let first = stmt_items (within unknown here) at s in
        let test = value_items here.scope (test_at begin first) c in
        let exits = until_exits begin first test in
        let body = stmt_items (within exits here) at s in
        let ends = stmt_ends s (within unknown here) unknown exits at in
        let same = until_alike begin first body test ends in
        until_well (length here.scope.program.natives) T U begin body test g
        (λ k z. stmt_well s (within exits here) false h.0
        (λ y. subst (λ e. T e.broke × T e.continued) (sym same) z) at k)
        (λ k. value_well here.scope c h.1 (test_at begin first)
        (subst (λ q. Holds T U q test) (sym ends) k))
    stmt_well (For init c step s) here in_list h out begin g =
        let natives = length here.scope.program.natives in
        let made = slots_made_by init in
        let inner = behind made here in
        let zeroth = stmts_items here begin init in
        let top = past begin zeroth in
        let leave = leave_code here.scope.slots made in
        let loop = for_items inner top c step s in
        let at = body_at top in
        let first = stmt_items (within unknown inner) at s in
        let more = step_items inner.scope (step_at top first) step in
        let test = perhaps_jumps inner.scope true at (loop_test top first more) c in
        let exits = loop_exits top test first more in
        let body = stmt_items (within exits inner) at s in
        let ends = stmt_ends s (within unknown inner) unknown exits at in
        let same = loop_alike top test first body more ends in
        well_both T U natives zeroth (loop ++ leave)
        (stmts_well init here h.0 out begin (holds_first T U begin zeroth (loop ++ leave) g))
        (well_both T U natives loop leave
        (loop_well natives T U top test body more
        (holds_first T U top loop leave (holds_rest T U begin zeroth (loop ++ leave) g))
        (λ to k. perhaps_well inner.scope c h.1 true at (loop_test top first more) to
        (subst (λ q. Holds T U (past q more) test) (sym ends) k))
        (λ k z. stmt_well s (within exits inner) false h.3
        (λ y. subst (λ e. T e.broke × T e.continued) (sym same) z) at k)
        (λ k. step_well inner.scope step h.2 (step_at top first)
        (subst (λ q. Holds T U q more) (sym ends) k)))
        (own_well T U natives leave (leave_fine natives here.scope.slots made)))
    stmt_well (Switch e cases d) here in_list h out begin g =
        let natives = length here.scope.program.natives in
        let value = value_items here.scope begin e in
        let p = past begin value in
        let first = cases_at p cases in
        let table = cases_table here first cases in
        let default = past first (cases_items here first 0 cases) in
        let second = else_items here default d in
        let end = past default second in
        let items = cases_items here first end cases in
        let all = table_code p cases default table (items ++ second) in
        let same : past first items ≡ default =
        cases_ends cases here here.exits here.exits first end 0 in
        let count = length_table here cases first in
        let behind_table =
        table_holds T U p cases default table (items ++ second) count
        (holds_rest T U begin value all g) in
        let h1 = holds_first T U first items second behind_table in
        let h2 =
        subst (λ q. Holds T U q second) same
        (holds_rest T U first items second behind_table) in
        let done = holds_end T U default second h2 in
        let both = cases_well cases here h.1 out first end done h1 in
        well_both T U natives value all
        (value_well here.scope e h.0 begin (holds_first T U begin value all g))
        (table_well natives T U p cases default table (items ++ second) count
        (holds_rest T U begin value all g) (holds_here T U default second h2) both.1
        (well_both T U natives items second both.0 (else_well d here h.2 out default h2)))
    stmt_well (Return e) here in_list h out begin g =
        let natives = length here.scope.program.natives in
        let leave = leave_code here.scope.slots here.scope.made in
        valued_well here.scope e h begin (leave ++ alone op.Retn ∷ [])
        (fine_both natives Nowhere leave (alone op.Retn ∷ [])
        (leave_fine natives here.scope.slots here.scope.made)
        (alone_fine natives Nowhere op.Retn refl refl, tt)) g
    stmt_well Break here in_list h out begin g =
        let natives = length here.scope.program.natives in
        let leave = leave_code here.scope.slots here.since in
        well_both T U natives leave (jump_to op.Jump here.exits.broke ∷ [])
        (own_well T U natives leave (leave_fine natives here.scope.slots here.since))
        (jump_well T U natives op.Jump here.exits.broke refl refl (out h).0, tt)
    stmt_well Continue here in_list h out begin g =
        let natives = length here.scope.program.natives in
        let leave = leave_code here.scope.slots here.since in
        well_both T U natives leave (jump_to op.Jump here.exits.continued ∷ [])
        (own_well T U natives leave (leave_fine natives here.scope.slots here.since))
        (jump_well T U natives op.Jump here.exits.continued refl refl (out h).1, tt)
    stmt_well (Exit e tag) here in_list h out begin g =
        valued_well here.scope e h.0 begin
        (taking op.ConstAlt (cell_of tag) ∷ taking op.Halt (pos 1) ∷ [])
        (ends_fine (length here.scope.program.natives) (cell_of tag) (pos 1)) g
    stmt_well (Sleep e tag) here in_list h out begin g =
        valued_well here.scope e h.0 begin
        (taking op.ConstAlt (cell_of tag) ∷ taking op.Halt (pos 12) ∷ [])
        (ends_fine (length here.scope.program.natives) (cell_of tag) (pos 12)) g
    stmt_well (Assert e) here in_list h out begin g =
        let natives = length here.scope.program.natives in
        let value = value_items here.scope begin e in
        let p = past begin value in
        let halt = taking op.Halt (pos 2) ∷ [] in
        well_both T U natives value (choice_code p [] halt)
        (value_well here.scope e h begin
        (holds_first T U begin value (choice_code p [] halt) g))
        (choice_well natives T U p [] halt (holds_rest T U begin value (choice_code p [] halt) g)
        (λ k. tt)
        (λ k. own_well T U natives halt (any_fine natives Nowhere op.Halt (pos 2) refl refl, tt)))
    stmt_well (State automaton state c) here in_list h out begin g =
        let natives = length here.scope.program.natives in
        let program = here.scope.program in
        let test = condition_items here.scope begin c in
        let p = past begin test in
        let first = switched_code program automaton state in
        well_both T U natives test (choice_code p first [])
        (condition_well here.scope c h.1 begin
        (holds_first T U begin test (choice_code p first []) g))
        (choice_well natives T U p first [] (holds_rest T U begin test (choice_code p first []) g)
        (λ k. own_well T U natives first (
          any_fine natives Nowhere op.ConstPri (pos (state + 1)) refl refl,
          (
            any_fine natives Nowhere op.StorPri
                (pos (4 * automaton_cell program automaton)) refl refl,
            enter_fine natives (entry_of program automaton state),
          ),
        )) (λ k. tt))
    stmt_well Empty here in_list h out begin g = tt

    pub else_well : (other : Else) (here : Here) → IsValidElse here.scope here.exits.looped other
        → Leaves T here.exits → (begin : ℕ)
        → Holds T U begin (else_items here begin other)
        → AreWell (length here.scope.program.natives) T U (else_items here begin other)
    else_well no_else here h out begin g = tt
    else_well (otherwise s) here h out begin g = stmt_well s here false h out begin g

    -- and the addresses of their table
    pub cases_well : (cases : Cases) (here : Here)
        → AreValidCases here.scope here.exits.looped cases → Leaves T here.exits
        → (begin end : ℕ) → T end
        → Holds T U begin (cases_items here begin end cases)
        → AreWell (length here.scope.program.natives) T U (cases_items here begin end cases)
        × ArePairsLed T (cases_table here begin cases)
    cases_well no_cases here h out begin end z g = (tt, tt)
    cases_well (then_case ranges s cases) here h out begin end z g =
        let natives = length here.scope.program.natives in
        let one = stmt_items here begin s in
        let next = past begin one + 8 in
        let others = cases_items here next end cases in
        let jump = jump_to op.Jump end in
        let h1 = holds_rest T U begin one (jump ∷ others) g in
        let rest =
        cases_well cases here h.2 out next end z
        (holds_next T U (past begin one) jump others h1) in (
          well_both T U natives one (jump ∷ others)
              (stmt_well s here false h.1 out begin (holds_first T U begin one (jump ∷ others) g))
              (jump_well T U natives op.Jump end refl refl z, rest.0),
          case_led T ranges begin (cases_table here next cases)
              (holds_here T U begin (case_code end one others) g) rest.1,
        )

    pub stmts_well : (stmts : Stmts) (here : Here)
        → AreValidStmts here.scope here.exits.looped stmts → Leaves T here.exits → (begin : ℕ)
        → Holds T U begin (stmts_items here begin stmts)
        → AreWell (length here.scope.program.natives) T U (stmts_items here begin stmts)
    stmts_well no_stmts here h out begin g = tt
    stmts_well (then_stmt s stmts) here h out begin g =
        let first = stmt_items here begin s in
        let inner = behind (slots_made s) here in
        let rest = stmts_items inner (past begin first) stmts in
        well_both T U (length here.scope.program.natives) first rest
        (stmt_well s here true h.0 out begin (holds_first T U begin first rest g))
        (stmts_well stmts inner h.1 out (past begin first) (holds_rest T U begin first rest g))
