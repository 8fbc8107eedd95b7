-- `state`: its code does what it means, where that of its condition does, and calls do.
use Rattle.std.proofs.Common.{◌≡◌, ◌+◌, ◌*◌, ◌/◌, ◌^◌, ◌<◌, ◌≤◌, inl, ℕ, zero, suc, ℤ, pos, List}
use Rattle.std.proofs.Common.{[], ◌∷◌, Option, None, Some, length, sum, slice_get}
use Rattle.std.proofs.Common.{slice_set, refl, sym, ap, subst, ◌∙◌, arith}
use Rattle.std.specs.Prelude.{IfSome}
use Rattle.pawn_cells.specs.Cells.{is_zero}
use Rattle.pawn_meaning.specs.Program.{Perhaps, State, Program}
use Rattle.pawn_meaning.specs.ValidStmts.{IsStateOf}
use Rattle.pawn_meaning.specs.ValidExprs.{Takes}
use Rattle.pawn_meaning.specs.Memory.{Memory, switched}
use Rattle.pawn_meaning.specs.World.{World}
use Rattle.pawn_meaning.specs.Run.{Run, Done, done, ◌>>=◌, then_do, give, change, changed, at_zero}
use Rattle.pawn_meaning.specs.Calls.{Way, Through}
use Rattle.pawn_meaning.specs.Meaning.{condition, call, call_entry}
use Rattle.pawn_meaning.specs.Later.{Grows}
use Rattle.pawn_meaning.proofs.Grows.{give_grows, after_grows, change_grows}
use Rattle.amx_ops.specs.declared.op.Op.TheVariants as op
use Rattle.amx_ops.specs.Instructions.{fetched}
use Rattle.amx_ops.specs.Written.{read_as}
use Rattle.amx_ops.specs.State as machine
use Rattle.amx_ops.specs.Moves.{Config}
use Rattle.pawn_cells.proofs.CellLaws.{small_cell}
use Rattle.gen_sim.specs.Pieces.{Automaton}
use Rattle.gen_sim.specs.Places.{Apart}
use Rattle.gen_sim.specs.View.{View, IsOfCall, depth, kept, used, PlacedIn}
use Rattle.gen_sim.specs.Stands.{Stands, With}
use Rattle.gen_sim.proofs.Lists.{set_put}
use Rattle.gen_sim.proofs.PieceLaws.{each_gives}
use Rattle.gen_sim.proofs.MemLaws.{live_in, below_top, count_cells}
use Rattle.gen_sim.proofs.DataLaws.{automaton_in_low}
use Rattle.gen_sim.proofs.ViewLaws.{automaton_below}
use Rattle.gen_sim.proofs.WorldLaws.{state_written}
use Rattle.gen_sim.specs.Site.{Site, DoesAt, scene_at}
use Rattle.gen_sim.specs.Items.{Item, CallOf, item_cells, past, with}
use Rattle.gen_sim.specs.Code.{with_turns}
use Rattle.gen_sim.proofs.StepLaws.{given, stray, goes}
use Rattle.gen_sim.specs.Lies.{Lies}
use Rattle.gen_sim.specs.SimpleCode.{taking}
use Rattle.gen_sim.specs.JumpCode.{choice_code}
use Rattle.gen_sim.proofs.ItemSteps.{one_item, next_lies, item_sets, item_pushes}
use Rattle.gen_sim.proofs.NodesPartLaws.{gives_of, then_items}
use Rattle.gen_sim.proofs.JumpNodes.{choose_grows}
use Rattle.gen_sim.proofs.OperatorCalls.{call_grows, call_does}
use Rattle.gen_sim.specs.Here.{Here}
use Rattle.gen_sim.specs.Ways.{Outer, Left}
use Rattle.gen_sim.specs.Flow.{Begins, StmtCode, ConditionCode}
use Rattle.gen_sim.proofs.WayLaws.{chooses}
use Rattle.gen_sim.specs.StateCode.{entry_of, automaton_cell, enter_code, switched_code, state_code}

got_below : {A : Type 0} (xs : List A) (i : ℕ) (y : A) → slice_get xs i ≡ Some y → i < length xs
got_below [] i y e = cc
got_below (x ∷ xs) zero y e = omega arith
got_below (x ∷ xs) (suc i) y e = omega (arith, got_below xs i y e)

-- ---- the automaton's cell

-- STOR.pri writes it
module _ (x : Site) {A : Type 0} {d : ℕ} {Q : A → World → Config → Type 0} {v : View}
    {pending : List ℤ} {p : ℕ} {w : World} {c : Config}
    (a : Stands x.program x.room v pending p w c) (automaton state : ℕ) where
  pub state_stored : (cell : ℕ) → automaton_cell x.program automaton ≡ cell
      → automaton < length x.program.automata → state + 1 < 2 ^ 31
      → c.state.pri ≡ pos (state + 1)
      → fetched x.amx.code p ≡ Some (read_as (with op.StorPri (pos (4 * cell))))
      → (go : Done → Run A)
      → ((n : Memory) (t : Config) → Stands x.program x.room v pending (p + 8)
      (record w { memory = n }) t
      → DoesAt x d (record w { memory = n }) t (go done (record w { memory = n })) Q)
      → DoesAt x (1 + d) w c ((change (switched automaton state) >>= go) w) Q
  state_stored cell is below small pri f go next =
      by_memory (switched automaton state w.memory) refl
    where
      own : PlacedIn x.program x.room v (Automaton automaton) (automaton_cell x.program automaton)
      own = record {
        where_it_is = inl (record {
          stands = automaton_in_low x.program automaton v.temps below;
          apart =
              each_gives (IsOfCall (depth v)) (Apart (Automaton automaton)) v.high
              (λ q h. automaton_below (depth v) automaton q h) a.laid.frames_are;
        });
      }

      placed : PlacedIn x.program x.room v (Automaton automaton) cell
      placed = subst (λ k. PlacedIn x.program x.room v (Automaton automaton) k) is own

      by_memory : (o : Option Memory) → switched automaton state w.memory ≡ o
          → DoesAt x (1 + d) w c (then_do (changed o w) go) Q
      by_memory None o = stray x a
      by_memory (Some n) o =
          let inside : cell < cell + 1 = omega arith in
          let live = live_in a.mem placed cell (omega arith) inside in
          let top = below_top a.mem placed cell inside in
          let j : 4 * cell / 4 ≡ cell = omega arith in
          let t : machine.State =
          record c.state {
            cells = slice_set c.state.cells cell (pos (state + 1));
            cip = p + 8;
          } in
          goes x a (with op.StorPri (pos (4 * cell))) f t (rw (live, pri, j) refl)
          (next n (record c { state = t })
          (state_written x.program x.room a automaton state cell placed n o
          (omega (arith, small)) (p + 8) t
          (set_put c.state.cells cell (pos (state + 1)) (omega (arith, top, count_cells a.mem)))
          refl refl refl refl))

-- ---- the entry function

call_entry_grows : (x : Site) (turns : ℕ) (entry : Option ℕ)
    → Grows (call_entry (scene_at x) (with_turns x turns) entry)
call_entry_grows x turns None = give_grows Through
call_entry_grows x turns (Some f) = after_grows (call_grows x turns f []) (λ _. give_grows Through)

module _ (here : Here) {x : Site} {turns : ℕ} {v : View} {o : Outer} (b : Begins here x turns v o)
    (deep : used x.program x.room v [] ≤ kept x.program x.room + sum v.needs) where
  enters : (entry : Option ℕ) → IfSome entry (λ f. Takes here.scope.program f [])
      → (p : ℕ) (w : World) (c : Config) → Stands x.program x.room v [] p w c
      → Lies x p (enter_code entry)
      → DoesAt x (length (item_cells (enter_code entry))) w c
      (call_entry (scene_at x) (with_turns x turns) entry w)
      (Left x here.exits o v (past p (enter_code entry)))
  enters None takes p w c s l = given x s s
  enters (Some f) takes p w c s l =
      item_pushes x (with op.PushC (pos 0)) s l (pos 0) refl (small_cell 0 (omega arith))
      (omega (arith, deep))
      ((call_entry_grows x turns (Some f)).at w)
      (λ t k e g. gives_of x (length (item_cells (CallOf f ∷ []))) w
      (call (scene_at x) (with_turns x turns) f [] w) (λ y. Through)
      (λ y n i. With x.program x.room v [] (p + 8 + 8) y n i) (λ y n i m. m.stands)
      (call_does here.scope x b.same turns b.calls f [] takes v [] [] [] (p + 8) w t tt tt
      (next_lies x p (taking op.PushC (pos 0)) (CallOf f ∷ []) l) (omega (arith, deep)) deep k))

  switches : (automaton state : ℕ) → automaton < length x.program.automata → state + 1 < 2 ^ 31
      → IfSome (entry_of x.program automaton state) (λ f. Takes here.scope.program f [])
      → (p : ℕ) (w : World) (c : Config) → Stands x.program x.room v [] p w c
      → Lies x p (switched_code x.program automaton state)
      → DoesAt x (length (item_cells (switched_code x.program automaton state))) w c
      ((change (switched automaton state)
      >>= (λ _. call_entry (scene_at x) (with_turns x turns)
      (entry_of x.program automaton state))) w)
      (Left x here.exits o v (past p (switched_code x.program automaton state)))
  switches automaton state below small takes p w c s l =
      let entry = entry_of x.program automaton state in
      let store = taking op.StorPri (pos (4 * automaton_cell x.program automaton)) in
      let l1 = next_lies x p (taking op.ConstPri (pos (state + 1))) (store ∷ enter_code entry) l in
      item_sets x (with op.ConstPri (pos (state + 1))) s l (pos (state + 1)) c.state.alt refl
      (λ t k e g. one_item x (with op.StorPri (pos (4 * automaton_cell x.program automaton)))
      (enter_code entry) w
      (state_stored x k automaton state (automaton_cell x.program automaton) refl below small e
      l1.lie.0 (λ _. call_entry (scene_at x) (with_turns x turns) entry)
      (λ n i m. enters entry takes (p + 8 + 8) (record w { memory = n }) i m
      (next_lies x (p + 8) store (enter_code entry) l1))))

module _ (here : Here) (begin : ℕ) where
  pub state_does : (automaton state : ℕ) (e : Perhaps) (test : List Item)
      → IsStateOf here.scope automaton state → state + 1 < 2 ^ 31
      → IfSome (entry_of here.scope.program automaton state) (λ f. Takes here.scope.program f [])
      → ConditionCode here.scope e begin test
      → StmtCode here (State automaton state e) begin
      (state_code here.scope.program begin automaton state test)
  state_does automaton state e test is small takes part = record {
    fresh = tt;
    count = refl;
    does = λ x turns v o b l paid deep w c s.
        let fewer = with_turns x turns in
        let p = past begin test in
        let first = switched_code here.scope.program automaton state in
        let good : Run Way = give Through in
        let switch : Run Way =
        change (switched automaton state)
        >>= (λ _. call_entry (scene_at x) fewer (entry_of x.program automaton state)) in
        let there = ap (λ (q : Program). slice_get q.automata automaton) b.same ∙ is.there in
        then_items x begin test (choice_code p first [])
        (λ y u t. With x.program x.room v [] p y u t) (Left x here.exits o v) w l
        (condition (scene_at x) fewer e w) (λ y. at_zero y good switch)
        (λ y u. (choose_grows (is_zero y) good switch (give_grows Through)
        (after_grows (change_grows (switched automaton state))
        (λ _. call_entry_grows x turns (entry_of x.program automaton state)))).at u)
        (λ j. part.does x b.site b.same turns b.calls v b.fits j.lie j.starts []
        (omega (arith, deep)) w c s)
        (λ j y u t k. chooses x here.exits o p first [] switch good y u t k j
        (λ i n h m. by_program x turns v o b (omega (arith, deep))
        (got_below x.program.automata automaton is.it there) p n h m i)
        (λ i n h m. given x m m));
  }
    where
      by_program : (x : Site) (turns : ℕ) (v : View) (o : Outer) (b : Begins here x turns v o)
          → used x.program x.room v [] ≤ kept x.program x.room + sum v.needs
          → automaton < length x.program.automata
          → (p : ℕ) (w : World) (c : Config) → Stands x.program x.room v [] (p + 8) w c
          → Lies x (p + 8) (switched_code here.scope.program automaton state)
          → DoesAt x (length (item_cells (switched_code here.scope.program automaton state))) w c
          ((change (switched automaton state)
          >>= (λ _. call_entry (scene_at x) (with_turns x turns)
          (entry_of x.program automaton state))) w)
          (Left x here.exits o v (past (p + 8) (switched_code here.scope.program automaton state)))
      by_program x turns v o b deep below p w c s l =
          let same : switched_code x.program automaton state
          ≡ switched_code here.scope.program automaton state
          = ap (λ (q : Program). switched_code q automaton state) b.same in
          let entry = ap (λ (q : Program). entry_of q automaton state) b.same in
          subst (λ items. DoesAt x (length (item_cells items)) w c
          ((change (switched automaton state)
          >>= (λ _. call_entry (scene_at x) (with_turns x turns)
          (entry_of x.program automaton state))) w)
          (Left x here.exits o v (past (p + 8) items))) same
          (switches here b deep automaton state below small
          (subst (λ n. IfSome n (λ f. Takes here.scope.program f [])) (sym entry) takes)
          (p + 8) w c s (subst (λ items. Lies x (p + 8) items) (sym same) l))
