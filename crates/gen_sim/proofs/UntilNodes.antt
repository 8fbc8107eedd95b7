-- `do` with its test behind the body, and conditions and steps that may be absent.
use Rattle.std.proofs.Common.{◌≡◌, ◌+◌, ◌^◌, ◌<◌, ◌≤◌, inr, ℕ, zero, suc, ℤ, pos, List, [], ◌∷◌}
use Rattle.std.proofs.Common.{◌++◌, Bool, true, false, length, max, sum, refl, sym, ap, subst, ◌∙◌}
use Rattle.std.proofs.Common.{arith, not as no}
use Rattle.pawn_cells.specs.Cells.{is_zero}
use Rattle.pawn_meaning.specs.Program.{Expr, Absent, Present, Stmt, DoWhile}
use Rattle.pawn_meaning.specs.Scope.{Scope}
use Rattle.pawn_meaning.specs.ValidStmts.{slots_made}
use Rattle.pawn_meaning.specs.World.{World}
use Rattle.pawn_meaning.specs.Run.{Run, done, ◌>>=◌, give, turn, choose, at_zero}
use Rattle.pawn_meaning.specs.Calls.{Way, Through, Broke, Continued, Returned, again}
use Rattle.pawn_meaning.specs.Meaning.{value, run, condition}
use Rattle.pawn_meaning.specs.Need.{load, perhaps_load, stmt_load, locals}
use Rattle.pawn_meaning.specs.Later.{Grows}
use Rattle.pawn_meaning.proofs.Grows.{give_grows, after_grows}
use Rattle.pawn_meaning.proofs.RunLaws.{runs_grow_lem}
use Rattle.amx_ops.specs.declared.op.Op.TheVariants as op
use Rattle.amx_ops.specs.Moves.{Config, move}
use Rattle.pawn_cells.proofs.CellLaws.{small_cell}
use Rattle.gen_sim.proofs.Sim.{stays, grown, in_turn, wider}
use Rattle.gen_sim.specs.View.{View, kept, used}
use Rattle.gen_sim.specs.Stands.{Stands, With}
use Rattle.gen_sim.specs.Site.{Site, DoesAt, scene_at}
use Rattle.gen_sim.specs.Items.{Item, item_cells, past, with}
use Rattle.gen_sim.specs.Code.{with_turns}
use Rattle.gen_sim.specs.Contract.{EffectCode, ValueCode}
use Rattle.gen_sim.specs.TestCode.{IsSet, test_op}
use Rattle.gen_sim.specs.Branch.{test_where, BranchCode}
use Rattle.gen_sim.proofs.BranchNodes.{told_branch}
use Rattle.gen_sim.proofs.ItemLaws.{past-append, count-append, past_is}
use Rattle.gen_sim.proofs.StepLaws.{given}
use Rattle.gen_sim.specs.Lies.{Lies}
use Rattle.gen_sim.specs.SimpleCode.{alone, const_code}
use Rattle.gen_sim.specs.JumpCode.{jump_to}
use Rattle.gen_sim.proofs.ItemSteps.{first_lies, rest_lies, next_lies, item_sets}
use Rattle.gen_sim.proofs.NodesPartLaws.{nodes_of, gives_of}
use Rattle.gen_sim.proofs.JumpNodes.{choose_grows}
use Rattle.gen_sim.specs.Here.{Here, within}
use Rattle.gen_sim.specs.Ways.{Outer, Left}
use Rattle.gen_sim.specs.Flow.{Begins, StmtCode, ConditionCode, PerhapsCode}
use Rattle.gen_sim.proofs.WayLaws.{stays_left}
use Rattle.gen_sim.specs.LoopCode.{test_at, until_end, until_exits, until_code}
use Rattle.gen_sim.proofs.LoopSteps.{in_next_turn, jump_goes, zero_goes, stays_goes, nop_turns}
use Rattle.gen_sim.proofs.LoopLaws.{again_grows}
use Rattle.gen_sim.proofs.LoopNodes.{loop_begins, inner_does}

-- what a loop with its test behind means
abbrev pub until_run : ℕ → Run Way → Run ℤ → Run Way → Run Way
until_run limit body test next =
    turn limit >>= (λ _. body >>= (λ way. again way
    (test >>= (λ n. at_zero n (give Through) next))))

module _ (here : Here) (top : ℕ) (s : Stmt) (c : Expr) (body test : List Item)
    (none : slots_made s ≡ [])
    (one : StmtCode (within (until_exits top body test) here) s (top + 4) body)
    (two : ValueCode here.scope c (test_at top body) test)
    (x : Site) (turns : ℕ) (v : View) (o : Outer) (b : Begins here x turns v o)
    (l : Lies x top (until_code top body test))
    (paid : length (item_cells (until_code top body test)) ≤ length x.amx.code)
    (deep : used x.program x.room v [] + (locals here.scope.slots s + max (load c) (stmt_load s))
    ≤ kept x.program x.room + sum v.needs) where
  abbrev end : ℕ
  end = until_end top body test

  abbrev tail : List Item
  tail = jump_to op.Jzer end ∷ jump_to op.Jump top ∷ []

  from_body : Lies x (top + 4) (body ++ (test ++ tail))
  from_body = next_lies x top (alone op.Nop) (body ++ (test ++ tail)) l

  from_test : Lies x (test_at top body) (test ++ tail)
  from_test = rest_lies x (top + 4) body (test ++ tail) from_body

  from_tail : Lies x (past (test_at top body) test) tail
  from_tail = rest_lies x (test_at top body) test tail from_test

  at_jump : Lies x (past (test_at top body) test + 8) (jump_to op.Jump top ∷ [])
  at_jump =
      next_lies x (past (test_at top body) test) (jump_to op.Jzer end)
      (jump_to op.Jump top ∷ []) from_tail

  small : top < 2 ^ 31
  small = omega (arith, l.lie.2)

  long : 1 + (length (item_cells body) + (length (item_cells test) + 4))
      ≡ length (item_cells (until_code top body test))
  long = omega (arith, count-append body (test ++ tail), count-append test tail)

  test_small : test_at top body < 2 ^ 31
  test_small = omega (arith, from_tail.lie.2, past_is (test_at top body) test)

  ends : end ≡ past top (until_code top body test)
  ends = sym (past-append (top + 4) body (test ++ tail) ∙ past-append (test_at top body) test tail)

  module _ (k : ℕ) (h : k ≤ turns) (next : Run Way) (grow : Grows next)
      (again_does : (w : World) (t : Config) → Stands x.program x.room v [] top w t
      → DoesAt x 1 w t (next w) (Left x here.exits o v end)) where
    by_zero : (n : ℤ) (w : World) (t : Config)
        → With x.program x.room v [] (past (test_at top body) test) n w t → (z : Bool)
        → is_zero n ≡ z
        → DoesAt x 3 w t (choose z (give Through) next w) (Left x here.exits o v end)
    by_zero n w t a true z =
        zero_goes x {d = 2} a.stands end at_jump.lie.2 (ap is_zero a.value ∙ z) from_tail.lie.0
        (λ j g. given x g g)
    by_zero n w t a false z =
        stays_goes x {d = 2} a.stands end (ap is_zero a.value ∙ z) from_tail.lie.0
        (λ j g. jump_goes x {d = 1} g top small at_jump.lie.0 (λ i f. again_does w i f))

    tests_then : (w : World) (t : Config) → Stands x.program x.room v [] (test_at top body) w t
        → DoesAt x (length (item_cells test) + 3) w t
        ((value (scene_at x) (with_turns x k) c >>= (λ n. at_zero n (give Through) next)) w)
        (Left x here.exits o v end)
    tests_then w t g =
        let j = first_lies x (test_at top body) test tail from_test in
        in_turn (move x.amx x.script) (length x.amx.code) x.room
        (value (scene_at x) (with_turns x k) c w) (λ n. at_zero n (give Through) next)
        (λ n. With x.program x.room v [] (past (test_at top body) test) n)
        (λ n y. (choose_grows (is_zero n) (give Through) next (give_grows Through) grow).at y)
        (two.does x b.site b.same k (λ fewer m. b.calls fewer (omega (arith, m, h))) v b.fits j.lie
        j.starts [] (omega (arith, deep)) w t g)
        (λ n y i a. by_zero n y i a (is_zero n) refl)

    pass_by : (way : Way) (w : World) (t : Config)
        → Left x (until_exits top body test) (record o { loop = v }) v (test_at top body) way w t
        → DoesAt x (length (item_cells test) + 3) w t
        (again way (value (scene_at x) (with_turns x k) c >>= (λ n. at_zero n (give Through) next))
        w) (Left x here.exits o v end)
    pass_by Through w t a = tests_then w t a
    pass_by Broke w t a = given x a.1 a.1
    pass_by Continued w t a = tests_then w t a.1
    pass_by (Returned y) w t a = stays_left x here.exits o v end (Returned y) w t a

    one_pass : (w : World) (t : Config) → Stands x.program x.room v [] top w t
        → DoesAt x 1 w t (until_run x.limit (run (scene_at x) (with_turns x k) s)
        (value (scene_at x) (with_turns x k) c) next w) (Left x here.exits o v end)
    one_pass w t g =
        let rb = run (scene_at x) (with_turns x k) s in
        let rt = value (scene_at x) (with_turns x k) c in
        let rest = λ (n : ℤ). at_zero n (give Through) next in
        nop_turns x {n = length (item_cells body) + (length (item_cells test) + 3)} g
        (λ _. rb >>= (λ way. again way (rt >>= rest))) (omega (arith, paid, long)) l.lie.0
        (λ j i. in_turn (move x.amx x.script) (length x.amx.code) x.room (rb (in_next_turn w))
        (λ way. again way (rt >>= rest))
        (Left x (until_exits top body test) (record o { loop = v }) v (test_at top body))
        (λ way y. (again_grows way (after_grows ((nodes_of x k).values c)
        (λ n. choose_grows (is_zero n) (give Through) next (give_grows Through) grow))).at y)
        (inner_does (within (until_exits top body test) here) none one x k v (record o { loop = v })
        (loop_begins here x turns k o (until_exits top body test) v h g.laid at_jump.lie.2
        test_small b)
        (first_lies x (top + 4) body (test ++ tail) from_body) (omega (arith, paid, long))
        (omega (arith, deep)) (in_next_turn w) j i)
        pass_by)

  passes : (k : ℕ) → k ≤ turns → (w : World) (t : Config) → Stands x.program x.room v [] top w t
      → DoesAt x 1 w t (with_turns x k (DoWhile s c) w) (Left x here.exits o v end)
  passes zero h w t g = record {
    does = inr (grown (move x.amx x.script) (length x.amx.code) x.room (omega arith)
        (stays (move x.amx x.script) (length x.amx.code) x.room t w g.said tt));
  }
  passes (suc k) h w t g =
      one_pass k (omega (arith, h)) (with_turns x k (DoWhile s c))
      (runs_grow_lem.nestings (scene_at x) k (DoWhile s c)) (passes k (omega (arith, h))) w t g

  pub until_passes : (w : World) (t : Config) → Stands x.program x.room v [] top w t
      → DoesAt x (length (item_cells (until_code top body test))) w t
      (run (scene_at x) (with_turns x turns) (DoWhile s c) w)
      (Left x here.exits o v (past top (until_code top body test)))
  until_passes w t g =
      subst (λ q. DoesAt x (length (item_cells (until_code top body test))) w t
      (run (scene_at x) (with_turns x turns) (DoWhile s c) w) (Left x here.exits o v q)) ends
      (wider (move x.amx x.script) (length x.amx.code) x.room {c = 1} (omega (arith, long))
      (one_pass turns (omega arith) (with_turns x turns (DoWhile s c))
      (runs_grow_lem.nestings (scene_at x) turns (DoWhile s c))
      (passes turns (omega arith)) w t g))

pub do_while_does : (here : Here) (top : ℕ) (s : Stmt) (c : Expr) (body test : List Item)
    → slots_made s ≡ []
    → StmtCode (within (until_exits top body test) here) s (top + 4) body
    → ValueCode here.scope c (test_at top body) test
    → StmtCode here (DoWhile s c) top (until_code top body test)
do_while_does here top s c body test none one two = record {
  fresh = tt;
  count = refl;
  does =
      λ x turns v o b l paid deep w t g. until_passes here top s c body test none one two x turns v
      o b l paid (omega (arith, deep)) w t g;
}

-- ---- what may be absent

module _ (scope : Scope) (begin : ℕ) where
  -- an absent condition is 1
  pub absent_condition : ConditionCode scope Absent begin (const_code (pos 1))
  absent_condition = record {
    does = λ x site same turns calls v fits lie starts pending deep w c s.
        item_sets x (with op.ConstPri (pos 1)) {js = []} s (record { lie = lie; starts = starts })
        (pos 1) c.state.alt refl
        (λ t b e f. given x b (record {
          stands = b;
          value = e;
          fits = small_cell 1 (omega arith);
        }));
  }

  pub present_condition : (e : Expr) (items : List Item) → ValueCode scope e begin items
      → ConditionCode scope (Present e) begin items
  present_condition e items part = record { does = part.does }

  pub absent_step : PerhapsCode scope Absent begin []
  absent_step =
      record { does = λ x site same turns calls v fits lie starts pending deep w c s. given x s s }

  pub present_step : (e : Expr) (items : List Item) → EffectCode scope e begin items
      → PerhapsCode scope (Present e) begin items
  present_step e items part = record {
    does = λ x site same turns calls v fits lie starts pending deep w c s.
        gives_of x (length (item_cells items)) w (value (scene_at x) (with_turns x turns) e w)
        (λ y. done)
        (λ y. Stands x.program x.room v pending (past begin items)) (λ y u t k. k)
        (part.does x site same turns calls v fits lie starts pending deep w c s);
  }

  -- conditions with jumps

  pub absent_branch : (when : Bool) (to : ℕ)
      → BranchCode scope (λ x fewer. condition (scene_at x) fewer Absent) (perhaps_load Absent) when
      to begin (const_code (pos 1) ++ jump_to (test_op (test_where when IsSet)) to ∷ [])
  absent_branch when to =
      told_branch scope (λ x fewer. condition (scene_at x) fewer Absent) (perhaps_load Absent) begin
      IsSet (const_code (pos 1)) when to
      (λ x site same turns calls v fits lie starts pending deep w c s.
      item_sets x (with op.ConstPri (pos 1)) {js = []} s
      (record { lie = lie; starts = starts }) (pos 1) c.state.alt refl
      (λ t b e f. given x b (b, ap (λ z. no (is_zero z)) e)))

  pub present_branch : (e : Expr) (when : Bool) (to : ℕ) (items : List Item)
      → BranchCode scope (λ x fewer. value (scene_at x) fewer e) (load e) when to begin items
      → BranchCode scope (λ x fewer. condition (scene_at x) fewer (Present e))
      (perhaps_load (Present e)) when to begin items
  present_branch e when to items part = record { ends = part.ends; does = part.does }
