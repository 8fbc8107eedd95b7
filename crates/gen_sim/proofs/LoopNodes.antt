-- `while` and `for`: their code does what they mean, where that of their parts does.
use Rattle.std.proofs.Common.{◌≡◌, ◌+◌, ◌^◌, ◌<◌, ◌≤◌, ℕ, pos, List, [], ◌++◌, true, length, max}
use Rattle.std.proofs.Common.{sum, refl, sym, ap, subst, ◌∙◌, arith}
use Rattle.pawn_cells.specs.Cells.{is_zero}
use Rattle.pawn_meaning.specs.Program.{Expr, Perhaps, Absent, Present, Stmt, While, For, Stmts}
use Rattle.pawn_meaning.specs.Program.{no_stmts}
use Rattle.pawn_meaning.specs.ValidStmts.{slots_made, slots_made_by}
use Rattle.pawn_meaning.specs.World.{World}
use Rattle.pawn_meaning.specs.Run.{Run, give, done}
use Rattle.pawn_meaning.specs.Calls.{Way, Through, pass}
use Rattle.pawn_meaning.specs.Meaning.{value, run, run_all, condition, perhaps}
use Rattle.pawn_meaning.specs.Need.{load, perhaps_load, stmt_load, made_by, locals}
use Rattle.pawn_meaning.specs.Later.{Grows}
use Rattle.pawn_meaning.proofs.Grows.{give_grows, after_grows, turn_grows}
use Rattle.pawn_meaning.proofs.RunLaws.{runs_grow_lem}
use Rattle.amx_ops.specs.Moves.{Config}
use Rattle.gen_sim.specs.View.{View, kept, used, Laid}
use Rattle.gen_sim.specs.Stands.{Stands}
use Rattle.gen_sim.specs.Site.{Site, DoesAt, scene_at}
use Rattle.gen_sim.specs.Items.{Item, item_cells, past, LieIn}
use Rattle.gen_sim.specs.Code.{with_turns}
use Rattle.gen_sim.specs.Branch.{BranchCode}
use Rattle.gen_sim.proofs.ItemLaws.{count-append}
use Rattle.gen_sim.proofs.StepLaws.{given}
use Rattle.gen_sim.specs.Lies.{Lies}
use Rattle.gen_sim.proofs.NodesPartLaws.{nodes_of, then_items}
use Rattle.gen_sim.proofs.JumpNodes.{choose_grows}
use Rattle.gen_sim.specs.Here.{Exits, Here, behind, within}
use Rattle.gen_sim.specs.FlowCode.{made_cells, leave_code}
use Rattle.gen_sim.specs.Ways.{Outer, made_view, Left}
use Rattle.gen_sim.specs.Flow.{Begins, StmtCode, StmtsCode, PerhapsCode}
use Rattle.gen_sim.proofs.MadeViews.{made_upon, upon_used, upon_needs, made_begins}
use Rattle.gen_sim.proofs.WayLaws.{pass_grows, passes_left, after_items}
use Rattle.gen_sim.proofs.LeaveNodes.{leaves_way}
use Rattle.gen_sim.specs.LoopCode.{body_at, step_at, loop_test, loop_end, loop_exits, loop_code}
use Rattle.gen_sim.specs.LoopCode.{for_code}
use Rattle.gen_sim.proofs.LoopLaws.{again_grows, tested, pass_run, end_small, step_small}
use Rattle.gen_sim.proofs.LoopLaws.{body_paid, loop_does}

-- the body of a loop begins in its view, with fewer turns left
pub loop_begins : (here : Here) (x : Site) (turns k : ℕ) (o : Outer) (exits : Exits) (v : View)
    → k ≤ turns → Laid x.program x.room v
    → exits.broke < 2 ^ 31 → exits.continued < 2 ^ 31 → Begins here x turns v o
    → Begins (within exits here) x k v (record o { loop = v })
loop_begins here x turns k o exits v h laid broke continued b = record {
  site = b.site;
  same = b.same;
  calls = λ fewer g. b.calls fewer (omega (arith, g, h));
  fits = b.fits;
  inside = record {
    loop =
        λ looped. record {
          broke = broke;
          continued = continued;
          upon = record { is = refl; laid = laid };
        };
    body = b.inside.body;
    returns = b.inside.returns;
  };
}

-- an expression that may be absent grows
pub condition_grows : (x : Site) (k : ℕ) (e : Perhaps)
    → Grows (condition (scene_at x) (with_turns x k) e)
condition_grows x k Absent = give_grows (pos 1)
condition_grows x k (Present e) = (nodes_of x k).values e

pub perhaps_grows : (x : Site) (k : ℕ) (e : Perhaps)
    → Grows (perhaps (scene_at x) (with_turns x k) e)
perhaps_grows x k Absent = give_grows done
perhaps_grows x k (Present e) = after_grows ((nodes_of x k).values e) (λ _. give_grows done)

-- a statement that makes no slot
module _ (here : Here) {s : Stmt} {begin : ℕ} {items : List Item} (none : slots_made s ≡ [])
    (part : StmtCode here s begin items) where
  pub makes_none : made_by here.scope.slots s ≡ 0
  makes_none = sym part.count ∙ ap (λ m. made_cells here.scope.slots m) none

  pub inner_does : (x : Site) (turns : ℕ) (v : View) (o : Outer) → Begins here x turns v o
      → Lies x begin items → length (item_cells items) ≤ length x.amx.code
      → used x.program x.room v [] + (locals here.scope.slots s + stmt_load s)
      ≤ kept x.program x.room + sum v.needs
      → (w : World) (c : Config) → Stands x.program x.room v [] begin w c
      → DoesAt x (length (item_cells items)) w c (run (scene_at x) (with_turns x turns) s w)
      (Left x here.exits o v (past begin items))
  inner_does x turns v o b l paid deep w c k =
      subst (λ m. DoesAt x (length (item_cells items)) w c
      (run (scene_at x) (with_turns x turns) s w)
      (Left x here.exits o (made_view here.scope.slots m v) (past begin items))) none
      (part.does x turns v o b l paid (omega (arith, deep, makes_none)) w c k)

-- the body of a loop in its passes
module _ (here : Here) (top : ℕ) (s : Stmt) (test body step : List Item)
    (none : slots_made s ≡ [])
    (part : StmtCode (within (loop_exits top test body step) here) s (body_at top) body)
    (x : Site) (turns : ℕ) (v : View) (o : Outer) (b : Begins here x turns v o)
    (l : Lies x top (loop_code top test body step))
    (paid : length (item_cells (loop_code top test body step)) ≤ length x.amx.code)
    (small : LieIn x (loop_test top body step) test → loop_end top test body step < 2 ^ 31)
    (deep : used x.program x.room v [] + (locals here.scope.slots s + stmt_load s)
    ≤ kept x.program x.room + sum v.needs) where
  pub passes_do : (k : ℕ) → k ≤ turns → Lies x (body_at top) body → (w : World) (c : Config)
      → Stands x.program x.room v [] (body_at top) w c
      → DoesAt x (length (item_cells body)) w c (run (scene_at x) (with_turns x k) s w)
      (Left x (loop_exits top test body step) (record o { loop = v }) v (step_at top body))
  passes_do k h j w c g =
      let exits = loop_exits top test body step in
      inner_does (within exits here) none part x k v (record o { loop = v })
      (loop_begins here x turns k o exits v h g.laid
      (end_small x here.exits o v top test body step l paid small)
      (step_small x here.exits o v top test body step l paid small) b)
      j (body_paid x here.exits o v top test body step l paid small) deep w c g

module _ (here : Here) (top : ℕ) where
  pub while_does : (e : Expr) (s : Stmt) (test body : List Item) → slots_made s ≡ []
      → BranchCode here.scope (λ x fewer. value (scene_at x) fewer e) (load e) true (body_at top)
      (loop_test top body []) test
      → StmtCode (within (loop_exits top test body []) here) s (body_at top) body
      → StmtCode here (While e s) top (loop_code top test body [])
  while_does e s test body none one two = record {
    fresh = tt;
    count = refl;
    does = λ x turns v o b l paid deep w c st.
        loop_does x here.exits o v top test body [] l paid (one.ends x) (While e s) turns
        (λ k. value (scene_at x) (with_turns x k) e)
        (λ k. run (scene_at x) (with_turns x k) s) (λ k. give done)
        (λ k h. record {
          body_grows = (nodes_of x k).statements s;
          step_grows = give_grows done;
          tests =
              λ j. one.does x b.site b.same k (λ fewer m. b.calls fewer (omega (arith, m, h))) v
              b.fits j (omega (arith, deep)) here.exits o v (loop_end top test body []) 0;
          does =
              passes_do here top s test body [] none two x turns v o b l paid (one.ends x)
              (omega (arith, deep)) k h;
          steps = λ j n i g. given x g g;
        }) (λ k. refl) w c st;
  }

-- a `for` without what it does first
module _ (here : Here) (top : ℕ) (e step : Perhaps) (s : Stmt)
    (test body more : List Item)
    (none : slots_made s ≡ [])
    (one : BranchCode here.scope (λ x fewer. condition (scene_at x) fewer e) (perhaps_load e) true
    (body_at top) (loop_test top body more) test)
    (two : StmtCode (within (loop_exits top test body more) here) s (body_at top) body)
    (three : PerhapsCode here.scope step (step_at top body) more) where
  -- what it means
  abbrev pub for_run : (x : Site) (turns : ℕ) → Run Way
  for_run x turns =
      tested x.limit (condition (scene_at x) (with_turns x turns) e)
      (run (scene_at x) (with_turns x turns) s)
      (perhaps (scene_at x) (with_turns x turns) step) (with_turns x turns (For no_stmts e step s))

  pub for_grows : (x : Site) (turns : ℕ) → Grows (for_run x turns)
  for_grows x turns =
      let rb = run (scene_at x) (with_turns x turns) s in
      let rs = perhaps (scene_at x) (with_turns x turns) step in
      let next = with_turns x turns (For no_stmts e step s) in
      after_grows (condition_grows x turns e)
      (λ n. choose_grows (is_zero n) (give Through) (pass_run x.limit rb rs next)
      (give_grows Through)
      (after_grows (turn_grows x.limit) (λ _. after_grows ((nodes_of x turns).statements s)
      (λ way. again_grows way (after_grows (perhaps_grows x turns step)
      (λ _. runs_grow_lem.nestings (scene_at x) turns (For no_stmts e step s)))))))

  pub passes_for : (x : Site) (turns : ℕ) (v : View) (o : Outer) → Begins here x turns v o
      → Lies x top (loop_code top test body more)
      → length (item_cells (loop_code top test body more)) ≤ length x.amx.code
      → used x.program x.room v [] +
      (locals here.scope.slots s + max (perhaps_load e) (max (perhaps_load step) (stmt_load s)))
      ≤ kept x.program x.room + sum v.needs
      → (w : World) (c : Config) → Stands x.program x.room v [] top w c
      → DoesAt x (length (item_cells (loop_code top test body more))) w c (for_run x turns w)
      (Left x here.exits o v (past top (loop_code top test body more)))
  passes_for x turns v o b l paid deep w c st =
      loop_does x here.exits o v top test body more l paid (one.ends x) (For no_stmts e step s) turns
      (λ k. condition (scene_at x) (with_turns x k) e)
      (λ k. run (scene_at x) (with_turns x k) s) (λ k. perhaps (scene_at x) (with_turns x k) step)
      (λ k h. record {
        body_grows = (nodes_of x k).statements s;
        step_grows = perhaps_grows x k step;
        tests =
            λ j. one.does x b.site b.same k (λ fewer m. b.calls fewer (omega (arith, m, h))) v
            b.fits j (omega (arith, deep)) here.exits o v (loop_end top test body more) 0;
        does =
            passes_do here top s test body more none two x turns v o b l paid (one.ends x)
            (omega (arith, deep)) k h;
        steps =
            λ j n i g. three.does x b.site b.same k
            (λ fewer m. b.calls fewer (omega (arith, m, h))) v b.fits j.lie j.starts []
            (omega (arith, deep)) n i g;
      }) (λ k. refl) w c st

module _ (here : Here) (begin : ℕ) where
  pub for_does : (init : Stmts) (e step : Perhaps) (s : Stmt)
      (first test body more : List Item)
      → slots_made s ≡ [] → StmtsCode here init begin first
      → BranchCode (behind (slots_made_by init) here).scope
      (λ x fewer. condition (scene_at x) fewer e) (perhaps_load e) true (body_at (past begin first))
      (loop_test (past begin first) body more) test
      → StmtCode (within (loop_exits (past begin first) test body more)
      (behind (slots_made_by init) here)) s (body_at (past begin first)) body
      → PerhapsCode (behind (slots_made_by init) here).scope step
      (step_at (past begin first) body) more
      → StmtCode here (For init e step s) begin
      (for_code here.scope.slots (slots_made_by init) begin first test body more)
  for_does init e step s first test body more none zeroth one two three = record {
    fresh = tt;
    count = refl;
    does = λ x turns v o b l paid deep w c st.
        let made = slots_made_by init in
        let slots = here.scope.slots in
        let top = past begin first in
        let inner = behind made here in
        let v1 = made_view slots made v in
        let loop = loop_code top test body more in
        let leave = leave_code slots made in
        let fewer = with_turns x turns in
        let again = for_run inner top e step s test body more none one two three x turns in
        let upon = made_upon x slots made v st.laid in
        let long = count-append first (loop ++ leave) in
        let longer = count-append loop leave in
        then_items x begin first (loop ++ leave) (Left x here.exits o v1 top)
        (Left x here.exits o v) w l (run_all (scene_at x) fewer init w)
        (λ way. pass way again)
        (λ way u. (pass_grows way (for_grows inner top e step s test body more none one two three x
        turns)).at u)
        (λ j. zeroth.does x turns v o b j (omega (arith, paid, long)) (omega (arith, deep)) w c st)
        (λ j way u t left. passes_left x here.exits o v1 v top
        (past top (loop ++ leave)) way again u t left
        (λ h. after_items x top loop leave (Left x here.exits o v1 (past top loop))
        (Left x here.exits o v) u j (again u)
        (λ i. passes_for inner top e step s test body more none one two three x turns v1 o
        (made_begins here x turns o made v zeroth.fresh b) i
        (omega (arith, paid, long, longer))
        (omega (
          arith,
          deep,
          upon_used x slots made v1 v upon,
          upon_needs x slots made v1 v upon,
          zeroth.count,
        )) u t h)
        (λ i way2 n k m. leaves_way x here.exits o slots made (past top loop) way2 n k upon m i
        (omega (arith, deep)))));
  }
