-- Expression statements, locals, lists, `if`, `exit` and `assert`: their code does what they mean,
-- where that of their parts does.
use Rattle.std.proofs.Common.{◌≡◌, ◌+◌, ◌≤◌, ℕ, pos, List, [], ◌∷◌, ◌++◌, Some, false, length, sum}
use Rattle.std.proofs.Common.{slice_get, refl, sym, ap, subst, ◌∙◌, arith}
use Rattle.pawn_cells.specs.Cells.{IsCell, cell_of, is_zero}
use Rattle.host_script.specs.declared.event.End.TheVariants as end
use Rattle.pawn_meaning.specs.Program.{Expr, Stmt, Do, Empty, Local, If, Exit, Assert, Stmts}
use Rattle.pawn_meaning.specs.Program.{no_stmts, then_stmt, Else, no_else, otherwise, ScalarSlot}
use Rattle.pawn_meaning.specs.Scope.{IsMade}
use Rattle.pawn_meaning.specs.ValidStmts.{slots_made, slots_made_by}
use Rattle.pawn_meaning.specs.Memory.{made, one_cell}
use Rattle.pawn_meaning.specs.World.{World}
use Rattle.pawn_meaning.specs.Run.{◌>>=◌, Stops, give, stop, change, at_zero}
use Rattle.pawn_meaning.specs.Calls.{Way, Through, pass}
use Rattle.pawn_meaning.specs.Meaning.{value, run, run_all, run_else}
use Rattle.pawn_meaning.specs.Need.{load, made_by, slot_size}
use Rattle.pawn_meaning.specs.Later.{Grows}
use Rattle.pawn_meaning.proofs.Grows.{same_later, give_grows, stop_grows, after_grows, change_grows}
use Rattle.amx_ops.specs.declared.op.Op.TheVariants as op
use Rattle.amx_ops.specs.Moves.{Config, move}
use Rattle.gen_sim.proofs.Sim.{stops, ends_one, wider, in_turn, size_is, after_it}
use Rattle.gen_sim.specs.View.{View, kept, used}
use Rattle.gen_sim.specs.Next.{with_local}
use Rattle.gen_sim.specs.Stands.{Stands, With}
use Rattle.gen_sim.specs.Site.{Site, DoesAt, scene_at}
use Rattle.gen_sim.specs.Items.{Item, item_cells, past, with}
use Rattle.gen_sim.specs.Fits.{own_sizes}
use Rattle.gen_sim.specs.Code.{with_turns}
use Rattle.gen_sim.specs.Contract.{EffectCode, ValueCode, PushedCode}
use Rattle.gen_sim.specs.Branch.{BranchCode}
use Rattle.gen_sim.proofs.TestSteps.{test_goes}
use Rattle.gen_sim.proofs.ItemLaws.{past-append, count-append}
use Rattle.gen_sim.proofs.StepLaws.{given, move_is}
use Rattle.gen_sim.proofs.MadeLaws.{local_does}
use Rattle.gen_sim.proofs.EndLaws.{exit_does}
use Rattle.gen_sim.specs.Lies.{Lies}
use Rattle.gen_sim.specs.SimpleCode.{taking}
use Rattle.gen_sim.specs.JumpCode.{jump_to, choice_code}
use Rattle.gen_sim.proofs.ItemSteps.{one_item, first_lies, rest_lies, next_lies}
use Rattle.gen_sim.proofs.JumpSteps.{past_small, jump_does}
use Rattle.gen_sim.proofs.NodesPartLaws.{nodes_of, gives_of, then_items}
use Rattle.gen_sim.proofs.JumpNodes.{choose_grows}
use Rattle.gen_sim.specs.Here.{Here, behind}
use Rattle.gen_sim.specs.FlowCode.{made_cells, exit_code, assert_code, else_at, if_code}
use Rattle.gen_sim.specs.Ways.{Outer, made_view, Left}
use Rattle.gen_sim.specs.Flow.{Begins, StmtCode, StmtsCode, ElseCode}
use Rattle.gen_sim.proofs.MadeViews.{count_more, made_upon, upon_used, upon_needs, made_more}
use Rattle.gen_sim.proofs.MadeViews.{new_more, made_begins}
use Rattle.gen_sim.proofs.WayLaws.{pass_grows, passes_left, chooses, ends_left}

-- an expression in a statement
pub value_at : (here : Here) {x : Site} {turns : ℕ} {v : View} {o : Outer}
    (b : Begins here x turns v o) {e : Expr} {begin : ℕ} {items : List Item}
    → ValueCode here.scope e begin items → Lies x begin items
    → used x.program x.room v [] + load e ≤ kept x.program x.room + sum v.needs
    → (w : World) (c : Config) → Stands x.program x.room v [] begin w c
    → DoesAt x (length (item_cells items)) w c (value (scene_at x) (with_turns x turns) e w)
    (λ y u t. With x.program x.room v [] (past begin items) y u t)
value_at here {x} {turns} {v} b part l deep w c s =
    part.does x b.site b.same turns b.calls v b.fits l.lie l.starts [] deep w c s

else_grows : (x : Site) (turns : ℕ) (other : Else)
    → Grows (run_else (scene_at x) (with_turns x turns) other)
else_grows x turns no_else = give_grows Through
else_grows x turns (otherwise s) = (nodes_of x turns).statements s

module _ (here : Here) (begin : ℕ) where
  pub empty_does : StmtCode here Empty begin []
  empty_does =
      record { fresh = tt; count = refl; does = λ x turns v o b l paid deep w c s. given x s s }

  pub do_does : (e : Expr) (items : List Item) → EffectCode here.scope e begin items
      → StmtCode here (Do e) begin items
  do_does e items part = record {
    fresh = tt;
    count = refl;
    does = λ x turns v o b l paid deep w c s.
        gives_of x (length (item_cells items)) w (value (scene_at x) (with_turns x turns) e w)
        (λ y. Through)
        (λ y. Stands x.program x.room v [] (past begin items)) (λ y u t k. k)
        (part.does x b.site b.same turns b.calls v b.fits l.lie l.starts [] (omega (arith, deep)) w
        c s);
  }

  pub local_node_does : (slot : ℕ) (e : Expr) (items : List Item) → here.scope.params ≤ slot
      → ¬ (IsMade here.scope slot)
      → slice_get here.scope.slots slot ≡ Some ScalarSlot → PushedCode here.scope e begin items
      → StmtCode here (Local slot e) begin items
  local_node_does slot e items above new is part = record {
    fresh = (above, new, tt);
    count = rw is refl;
    does = λ x turns v o b l paid deep w c s.
        let p = past begin items in
        let size : slot_size (slice_get here.scope.slots slot) ≡ 1 = ap slot_size is in
        let own : own_sizes (slice_get here.scope.slots slot) ≡ 1 ∷ [] = ap own_sizes is in
        size_is (move x.amx x.script) (length x.amx.code) x.room
        {c = length (item_cells items) + 0} (omega arith)
        (in_turn (move x.amx x.script) (length x.amx.code) x.room
        (value (scene_at x) (with_turns x turns) e w)
        (λ y. change (made slot (one_cell y)) >>= (λ _. give Through))
        (λ y u t. Stands x.program x.room v (y ∷ []) p u t × IsCell y)
        (λ y u. (after_grows (change_grows (made slot (one_cell y))) (λ _. give_grows Through)).at
        u)
        (part.does x b.site b.same turns b.calls v b.fits l.lie l.starts []
        (omega (arith, deep, size)) w c s)
        (λ y u t k. gives_of x 0 u (change (made slot (one_cell y)) u) (λ d. Through)
        (λ d n i. Stands x.program x.room (with_local v slot (1 ∷ [])) [] p n i)
        (λ d n i m. subst (λ z. Stands x.program x.room (with_local v slot z) [] p n i)
        (sym own) m)
        (local_does x here.scope v b.fits slot above new y p u t k.0)));
  }

  -- ---- lists

  pub no_stmts_does : StmtsCode here no_stmts begin []
  no_stmts_does =
      record { fresh = tt; count = refl; does = λ x turns v o b l paid deep w c s. given x s s }

  pub then_stmt_does : (s : Stmt) (stmts : Stmts) (first rest : List Item)
      → StmtCode here s begin first
      → StmtsCode (behind (slots_made s) here) stmts (past begin first) rest
      → StmtsCode here (then_stmt s stmts) begin (first ++ rest)
  then_stmt_does s stmts first rest one two = record {
    fresh = new_more here.scope (slots_made s) (slots_made_by stmts) one.fresh two.fresh;
    count =
        omega (
          arith,
          count_more here.scope.slots (slots_made s) (slots_made_by stmts),
          one.count,
          two.count,
        );
    does = λ x turns v o b l paid deep w c k.
        let slots = here.scope.slots in
        let made = slots_made s in
        let more = slots_made_by stmts in
        let inner = made_view slots made v in
        let fewer = with_turns x turns in
        let long = count-append first rest in
        let upon = made_upon x slots made v k.laid in
        subst (λ z. DoesAt x (length (item_cells (first ++ rest))) w c
        (run_all (scene_at x) fewer (then_stmt s stmts) w)
        (Left x here.exits o z (past begin (first ++ rest)))) (sym (made_more slots made more v))
        (then_items x begin first rest (Left x here.exits o inner (past begin first))
        (Left x here.exits o (made_view slots more inner)) w l
        (run (scene_at x) fewer s w) (λ way. pass way (run_all (scene_at x) fewer stmts))
        (λ way u. (pass_grows way ((nodes_of x turns).lists stmts)).at u)
        (λ j. one.does x turns v o b j (omega (arith, paid, long)) (omega (arith, deep)) w c k)
        (λ j way u t left. passes_left x here.exits o inner (made_view slots more inner)
        (past begin first) (past (past begin first) rest) way
        (run_all (scene_at x) fewer stmts) u t left
        (λ h. two.does x turns inner o (made_begins here x turns o made v one.fresh b) j
        (omega (arith, paid, long))
        (omega (
          arith,
          deep,
          upon_used x slots made inner v upon,
          upon_needs x slots made inner v upon,
          one.count,
        )) u t h)));
  }

  -- ---- one of two

  pub no_else_does : ElseCode here no_else begin []
  no_else_does = record { does = λ x turns v o b l paid deep w c s. given x s s }

  pub otherwise_does : (s : Stmt) (items : List Item) → slots_made s ≡ []
      → StmtCode here s begin items → ElseCode here (otherwise s) begin items
  otherwise_does s items none part = record {
    does = λ x turns v o b l paid deep w c k.
        let count : made_by here.scope.slots s ≡ 0 =
        sym part.count ∙ ap (λ m. made_cells here.scope.slots m) none in
        subst (λ m. DoesAt x (length (item_cells items)) w c
        (run (scene_at x) (with_turns x turns) s w)
        (Left x here.exits o (made_view here.scope.slots m v) (past begin items))) none
        (part.does x turns v o b l paid (omega (arith, deep, count)) w c k);
  }

  pub if_does : (e : Expr) (a : Stmt) (other : Else) (condition first second : List Item)
      → slots_made a ≡ []
      → BranchCode here.scope (λ x fewer. value (scene_at x) fewer e) (load e) false
      (else_at (past begin condition) first) begin condition
      → StmtCode here a (past begin condition) first
      → ElseCode here other (else_at (past begin condition) first) second
      → StmtCode here (If e a other) begin (if_code begin condition first second)
  if_does e a other condition first second none test one two = record {
    fresh = tt;
    count = refl;
    does = λ x turns v o b l paid deep w c s.
        let fewer = with_turns x turns in
        let p = past begin condition in
        let at = else_at p first in
        let end = past at second in
        let jump = jump_to op.Jump end in
        let ra = run (scene_at x) fewer a in
        let rb = run_else (scene_at x) fewer other in
        let count : made_by here.scope.slots a ≡ 0 =
        sym one.count ∙ ap (λ m. made_cells here.scope.slots m) none in
        let long = count-append condition (first ++ (jump ∷ second)) in
        let longer = count-append first (jump ∷ second) in
        let lc = first_lies x begin condition (first ++ (jump ∷ second)) l in
        let l1 = rest_lies x begin condition (first ++ (jump ∷ second)) l in
        let l2 = rest_lies x p first (jump ∷ second) l1 in
        let l3 = next_lies x (past p first) jump second l2 in
        let ends : end ≡ past begin (if_code begin condition first second) =
        sym (past-append begin condition (first ++ (jump ∷ second))
        ∙ past-append p first (jump ∷ second)) in
        subst (λ q. DoesAt x (length (item_cells (if_code begin condition first second))) w c
        (run (scene_at x) fewer (If e a other) w) (Left x here.exits o v q)) ends
        (size_is (move x.amx x.script) (length x.amx.code) x.room
        {c = length (item_cells condition) + length (item_cells (first ++ (jump ∷ second)))}
        (sym long)
        (test.does x b.site b.same turns b.calls v b.fits lc (omega (arith, deep)) here.exits o v
        end (length (item_cells (first ++ (jump ∷ second)))) rb ra (else_grows x turns other)
        ((nodes_of x turns).statements a)
        (λ q t u i k h f. wider (move x.amx x.script) (length x.amx.code) x.room
        {c = 1 + length (item_cells second)} (omega (arith, longer))
        (test_goes x k t at l2.lie.2 h f
        (λ j g. two.does x turns v o b l3 (omega (arith, paid, long, longer)) (omega (arith, deep))
        u j g)))
        (λ u i k. size_is (move x.amx x.script) (length x.amx.code) x.room (sym longer)
        (after_it (move x.amx x.script) (length x.amx.code) x.room (ra u)
        (Left x here.exits o v (past p first))
        (subst (λ z. DoesAt x (length (item_cells first)) u i (ra u)
        (Left x here.exits o (made_view here.scope.slots z v) (past p first))) none
        (one.does x turns v o b (first_lies x p first (jump ∷ second) l1)
        (omega (arith, paid, long, longer)) (omega (arith, deep, count)) u i k))
        (λ way n g m. ends_left x here.exits o v v (past p first) end way n g m
        (λ j. jump_does x j end 0 (past_small x at second l3.lie l2.lie.2) (omega arith) l2
        (λ z d r. given x d d))))) w c s));
  }

  -- without `else`
  pub only_if_does : (e : Expr) (a : Stmt) (condition first : List Item)
      → slots_made a ≡ []
      → BranchCode here.scope (λ x fewer. value (scene_at x) fewer e) (load e) false
      (past (past begin condition) first) begin condition
      → StmtCode here a (past begin condition) first
      → StmtCode here (If e a no_else) begin (condition ++ first)
  only_if_does e a condition first none test one = record {
    fresh = tt;
    count = refl;
    does = λ x turns v o b l paid deep w c s.
        let fewer = with_turns x turns in
        let p = past begin condition in
        let end = past p first in
        let ra = run (scene_at x) fewer a in
        let count : made_by here.scope.slots a ≡ 0 =
        sym one.count ∙ ap (λ m. made_cells here.scope.slots m) none in
        let long = count-append condition first in
        let lc = first_lies x begin condition first l in
        let l1 = rest_lies x begin condition first l in
        let small = past_small x p first l1.lie (test.ends x lc.lie) in
        subst (λ q. DoesAt x (length (item_cells (condition ++ first))) w c
        (run (scene_at x) fewer (If e a no_else) w) (Left x here.exits o v q))
        (sym (past-append begin condition first))
        (size_is (move x.amx x.script) (length x.amx.code) x.room
        {c = length (item_cells condition) + length (item_cells first)} (sym long)
        (test.does x b.site b.same turns b.calls v b.fits lc (omega (arith, deep)) here.exits o v
        end (length (item_cells first)) (give Through) ra (give_grows Through)
        ((nodes_of x turns).statements a)
        (λ q t u i k h f. test_goes x k t end small h f (λ j g. given x g g))
        (λ u i k. subst (λ z. DoesAt x (length (item_cells first)) u i (ra u)
        (Left x here.exits o (made_view here.scope.slots z v) end)) none
        (one.does x turns v o b l1 (omega (arith, paid, long)) (omega (arith, deep, count)) u i k))
        w c s));
  }

  -- ---- ends

  pub exit_node_does : (e : Expr) (tag : ℕ) (items : List Item) → ValueCode here.scope e begin items
      → StmtCode here (Exit e tag) begin (exit_code tag items)
  exit_node_does e tag items part = record {
    fresh = tt;
    count = refl;
    does = λ x turns v o b l paid deep w c s.
        let p = past begin items in
        let last = taking op.ConstAlt (cell_of tag) ∷ taking op.Halt (pos 1) ∷ [] in
        then_items x begin items last (λ y u t. With x.program x.room v [] p y u t)
        (Left x here.exits o v) w l
        (value (scene_at x) (with_turns x turns) e w) (λ y. stop (end.Exit y (cell_of tag)))
        (λ y u. same_later u)
        (λ j. value_at here b part j (omega (arith, deep)) w c s)
        (λ j y u t k. wider (move x.amx x.script)
        (length x.amx.code) x.room {d = length (item_cells last)} (omega arith)
        (exit_does x y (cell_of tag) p u t k j.lie.0
        (next_lies x p (taking op.ConstAlt (cell_of tag))
        (taking op.Halt (pos 1) ∷ []) j).lie.0));
  }

  halt_does : (x : Site) {v : View} {p : ℕ} {Q : Way → World → Config → Type 0} (w : World)
      (c : Config) → Stands x.program x.room v [] p w c
      → Lies x p (taking op.Halt (pos 2) ∷ [])
      → DoesAt x (length (item_cells (taking op.Halt (pos 2) ∷ []))) w c
      (Stops (end.Error (pos 2)) w) Q
  halt_does x {v} {p} w c s l =
      one_item x (with op.Halt (pos 2)) [] w
      (stops (move x.amx x.script) (length x.amx.code) x.room
      (ends_one (move x.amx x.script) (length x.amx.code) x.room c
      (record c { state = record c.state { cip = p + 8 } }) w (end.Error (pos 2))
      (move_is x c p (with op.Halt (pos 2)) s.at l.lie.0) s.said))

  pub assert_does : (e : Expr) (items : List Item) → ValueCode here.scope e begin items
      → StmtCode here (Assert e) begin (assert_code begin items)
  assert_does e items part = record {
    fresh = tt;
    count = refl;
    does = λ x turns v o b l paid deep w c s.
        let p = past begin items in
        let halt = taking op.Halt (pos 2) ∷ [] in
        let fail = stop (end.Error (pos 2)) in
        let good = give Through in
        then_items x begin items (choice_code p [] halt)
        (λ y u t. With x.program x.room v [] p y u t) (Left x here.exits o v) w l
        (value (scene_at x) (with_turns x turns) e w) (λ y. at_zero y fail good)
        (λ y u. (choose_grows (is_zero y) fail good (stop_grows (end.Error (pos 2)))
        (give_grows Through)).at u)
        (λ j. value_at here b part j (omega (arith, deep)) w c s)
        (λ j y u t k. chooses x here.exits o p [] halt good fail y u t k j
        (λ i n h m. given x m m) (λ i n h m. halt_does x n h m i));
  }
