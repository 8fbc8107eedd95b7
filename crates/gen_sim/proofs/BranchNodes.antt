-- Conditions with jumps of their own: one that is told by a test, `!`, `&&` and `||`.
use Rattle.std.proofs.Common.{◌≡◌, ◌+◌, ◌^◌, ◌<◌, ◌≤◌, ℕ, zero, suc, ℤ, pos, negsuc, List, []}
use Rattle.std.proofs.Common.{◌∷◌, ◌++◌, Bool, true, false, Some, length, max, refl, sym, ap, subst}
use Rattle.std.proofs.Common.{◌∙◌, arith, not as no}
use Rattle.pawn_cells.specs.declared.operator.Prefix.TheVariants as before
use Rattle.pawn_cells.specs.declared.operator.Logical.TheVariants as logic
use Rattle.pawn_cells.specs.Cells.{is_zero}
use Rattle.pawn_cells.specs.Cells as cells
use Rattle.pawn_cells.specs.Operators.{logical, prefix}
use Rattle.pawn_meaning.specs.Program.{Expr, Unary, And, Or}
use Rattle.pawn_meaning.specs.Scope.{Scope}
use Rattle.pawn_meaning.specs.Need.{load}
use Rattle.pawn_meaning.specs.World.{World}
use Rattle.pawn_meaning.specs.Run.{Run, ◌>>=◌, choose, at_zero, give}
use Rattle.pawn_meaning.specs.Calls.{Way}
use Rattle.pawn_meaning.specs.Meaning.{Scene, Fewer, value}
use Rattle.pawn_meaning.specs.Later.{Grows}
use Rattle.pawn_meaning.proofs.Grows.{after_grows}
use Rattle.amx_ops.specs.Instructions.{fetched}
use Rattle.amx_ops.specs.Written.{read_as}
use Rattle.amx_ops.specs.Moves.{Config, move}
use Rattle.gen_sim.proofs.Sim.{in_turn, wider, size_is}
use Rattle.gen_sim.specs.View.{View}
use Rattle.gen_sim.specs.Stands.{Stands}
use Rattle.gen_sim.specs.Site.{Site, DoesAt, scene_at}
use Rattle.gen_sim.specs.Items.{Item, item_cells, past, with}
use Rattle.gen_sim.specs.Code.{Code, with_turns}
use Rattle.gen_sim.specs.Here.{Exits}
use Rattle.gen_sim.specs.Ways.{Outer, Left}
use Rattle.gen_sim.specs.JumpCode.{jump_to}
use Rattle.gen_sim.specs.TestCode.{Test, holds, test_op, opposite}
use Rattle.gen_sim.specs.Branch.{test_where, aim, TakenDoes, FromDoes, BranchCode}
use Rattle.gen_sim.proofs.ItemLaws.{past-append, count-append, lie_rest}
use Rattle.gen_sim.proofs.ItemSteps.{first_lies, rest_lies}
use Rattle.gen_sim.proofs.NodesPartLaws.{nodes_of}
use Rattle.gen_sim.proofs.OperatorNodes.{regrouped, same_behind}
use Rattle.gen_sim.proofs.JumpNodes.{choose_grows, and_value, or_value}
use Rattle.gen_sim.proofs.TestLaws.{leaves, test_past, test_count}
use Rattle.gen_sim.proofs.TestNodes.{truth_zero}
use Rattle.gen_sim.proofs.TestSteps.{test_ends, test_goes}

-- ---- one that is told by a test

module _ (x : Site) {v : View} (e : Exits) (o : Outer) (around : View) (end d : ℕ)
    (off on : Run Way) (p to : ℕ) (t : Test) where
  told_by : (when : Bool) → TakenDoes x v to (1 + d) (choose when on off) (Left x e o around end)
      → FromDoes x v (p + 8) d (choose when off on) (Left x e o around end)
      → fetched x.amx.code p ≡ Some (read_as (with (test_op (test_where when t)) (pos to)))
      → (y : ℤ) (u : World) (i : Config) → Stands x.program x.room v [] p u i
      → holds t i.state.pri i.state.alt ≡ no (is_zero y) → (b : Bool) → is_zero y ≡ b
      → DoesAt x (1 + d) u i (choose b off on u) (Left x e o around end)
  told_by true taken goes f y u i s h true z =
      test_ends x {d = d} s t to (h ∙ ap no z) f (λ k g. goes u k g)
  told_by true taken goes f y u i s h false z = taken p t u i s (h ∙ ap no z) f
  told_by false taken goes f y u i s h true z =
      taken p (opposite t) u i s (leaves t y i.state h ∙ z) f
  told_by false taken goes f y u i s h false z =
      test_ends x {d = d} s (opposite t) to (leaves t y i.state h ∙ z) f (λ k g. goes u k g)

module _ (scope : Scope) (test : (x : Site) → Fewer → Run ℤ) (need begin : ℕ) where
  -- behind its items stands the jump
  pub told_branch : (t : Test) (items : List Item) (when : Bool) (to : ℕ)
      → Code scope test need items begin
      (λ x v pending q y u c. Stands x.program x.room v pending q u c
      × (holds t c.state.pri c.state.alt ≡ no (is_zero y)))
      → BranchCode scope test need when to begin
      (items ++ jump_to (test_op (test_where when t)) to ∷ [])
  told_branch t items when to part =
      let p = past begin items in
      let by = test_where when t in
      let jump = jump_to (test_op by) to ∷ [] in
      let behind : past begin (items ++ jump) ≡ p + 8 =
      past-append begin items jump ∙ test_past p by to [] in
      record {
        ends = λ x l. subst (λ q. q < 2 ^ 31) (sym (past-append begin items jump))
            (lie_rest x begin items jump l).2;
        does = λ x site same turns calls v fits l deep e o around end d off on gn gy taken goes w
            c s.
            let li = first_lies x begin items jump l in
            let lj = rest_lies x begin items jump l in
            wider (move x.amx x.script) (length x.amx.code) x.room
            {c = length (item_cells items) + (1 + d)}
            (omega (arith, count-append items jump, test_count by to []))
            (in_turn (move x.amx x.script) (length x.amx.code) x.room (test x (with_turns x turns) w)
            (λ y. at_zero y off on)
            (λ y u i. Stands x.program x.room v [] p u i
            × (holds t i.state.pri i.state.alt ≡ no (is_zero y)))
            (λ y u. (choose_grows (is_zero y) off on gn gy).at u)
            (part x site same turns calls v fits li.lie li.starts [] deep w c s)
            (λ y u i k. told_by x e o around end d off on p to t when taken
            (subst (λ q. FromDoes x v q d (choose when off on) (Left x e o around end)) behind
            goes) lj.lie.0 y u i k.0 k.1 (is_zero y) refl));
      }

-- ---- `!`

choose_other : (b : Bool) (f g : Run Way) → choose (no b) f g ≡ choose b g f
choose_other true f g = refl
choose_other false f g = refl

module _ (scope : Scope) (e : Expr) (begin : ℕ) where
  not_is : (scene : Scene) (fewer : Fewer) (off on : Run Way) (w : World)
      → (value scene fewer e >>= (λ y. at_zero y on off)) w
      ≡ (value scene fewer (Unary before.Not e) >>= (λ y. at_zero y off on)) w
  not_is scene fewer off on w =
      same_behind (value scene fewer e w) (λ y. at_zero y on off)
      (λ y. give (prefix before.Not y) >>= (λ z. at_zero z off on))
      (λ y u. ap (λ (r : Run Way). r u) (sym (choose_other (is_zero y) off on))
      ∙ ap (λ b. choose b off on u) (sym (truth_zero (is_zero y))))
      ∙ sym (regrouped (value scene fewer e w) (λ y. give (prefix before.Not y))
      (λ z. at_zero z off on))

  pub not_branch : (when : Bool) (to : ℕ) (items : List Item)
      → BranchCode scope (λ x fewer. value (scene_at x) fewer e) (load e) (no when) to begin items
      → BranchCode scope (λ x fewer. value (scene_at x) fewer (Unary before.Not e))
      (load (Unary before.Not e)) when to begin items
  not_branch when to items part = record {
    ends = part.ends;
    does = λ x site same turns calls v fits l deep ex o around end d off on gn gy taken goes w c s.
        subst (λ m. DoesAt x (length (item_cells items) + d) w c m (Left x ex o around end))
        (not_is (scene_at x) (with_turns x turns) off on w)
        (part.does x site same turns calls v fits l (omega (arith, deep)) ex o around end d on off
        gy gn
        (subst (λ (r : Run Way). TakenDoes x v to (1 + d) r (Left x ex o around end))
        (sym (choose_other when off on)) taken)
        (subst (λ (r : Run Way). FromDoes x v (past begin items) d r (Left x ex o around end))
        (sym (choose_other when on off)) goes) w c s);
  }

-- ---- two operands, of which the left one decides at a truth

module _ (x : Site) {v : View} (e : Exits) (o : Outer) (around : View) (end d n : ℕ)
    (off on rest : Run Way) where
  joint_goes : (decides : Bool) (p : ℕ) → FromDoes x v p n rest (Left x e o around end)
      → FromDoes x v p n (choose decides (choose decides rest off) (choose decides on rest))
      (Left x e o around end)
  joint_goes true p goes = goes
  joint_goes false p goes = goes

  joint_taken : (decides when : Bool) (to q : ℕ) → d ≤ n → q < 2 ^ 31
      → TakenDoes x v to (1 + d) (choose when on off) (Left x e o around end)
      → FromDoes x v q d (choose when off on) (Left x e o around end)
      → TakenDoes x v (aim decides when to q) (1 + n)
      (choose decides (choose decides on rest) (choose decides rest off)) (Left x e o around end)
  joint_taken true true to q le small taken goes =
      λ p t u i s h f. wider (move x.amx x.script) (length x.amx.code) x.room (omega (arith, le))
      (taken p t u i s h f)
  joint_taken true false to q le small taken goes =
      λ p t u i s h f. wider (move x.amx x.script) (length x.amx.code) x.room {c = 1 + d}
      (omega (arith, le)) (test_goes x s t q small h f (λ k g. goes u k g))
  joint_taken false true to q le small taken goes =
      λ p t u i s h f. wider (move x.amx x.script) (length x.amx.code) x.room {c = 1 + d}
      (omega (arith, le)) (test_goes x s t q small h f (λ k g. goes u k g))
  joint_taken false false to q le small taken goes =
      λ p t u i s h f. wider (move x.amx x.script) (length x.amx.code) x.room (omega (arith, le))
      (taken p t u i s h f)

-- the value of an expression is that of the left one where this decides, and else that of the right
-- one
pub record Joint (decides : Bool) (l r e : Expr) : Type 0 where
  pub is : (scene : Scene) (fewer : Fewer) (off on : Run Way) (w : World)
      → let rest = value scene fewer r >>= (λ z. at_zero z off on) in
      (value scene fewer l
      >>= (λ y. at_zero y (choose decides rest off) (choose decides on rest))) w
      ≡ (value scene fewer e >>= (λ y. at_zero y off on)) w
  pub enough : max (load l) (load r) ≤ load e

module _ (scope : Scope) (decides : Bool) (l r e : Expr) (joint : Joint decides l r e)
    (begin : ℕ) where
  pub joint_branch : (when : Bool) (to : ℕ) (left right : List Item)
      → BranchCode scope (λ x fewer. value (scene_at x) fewer l) (load l) decides
      (aim decides when to (past (past begin left) right)) begin left
      → BranchCode scope (λ x fewer. value (scene_at x) fewer r) (load r) when to (past begin left)
      right
      → BranchCode scope (λ x fewer. value (scene_at x) fewer e) (load e) when to begin
      (left ++ right)
  joint_branch when to left right one two =
      let p = past begin left in
      let q = past p right in
      let behind : past begin (left ++ right) ≡ q = past-append begin left right in
      record {
        ends = λ x l. subst (λ n. n < 2 ^ 31) (sym behind)
            (two.ends x (lie_rest x begin left right l));
        does = λ x site same turns calls v fits lies deep ex o around end d off on gn gy taken goes
            w c s.
            let fewer = with_turns x turns in
            let rest : Run Way = value (scene_at x) fewer r >>= (λ z. at_zero z off on) in
            let gr : Grows rest = after_grows ((nodes_of x turns).values r)
            (λ z. choose_grows (is_zero z) off on gn gy) in
            let lr = rest_lies x begin left right lies in
            let n = length (item_cells right) + d in
            let enough = joint.enough in
            let end_does =
            subst (λ z. FromDoes x v z d (choose when off on) (Left x ex o around end)) behind
            goes in
            subst (λ m. DoesAt x (length (item_cells (left ++ right)) + d) w c m
            (Left x ex o around end)) (joint.is (scene_at x) fewer off on w)
            (size_is (move x.amx x.script) (length x.amx.code) x.room
            {c = length (item_cells left) + n} (omega (arith, count-append left right))
            (one.does x site same turns calls v fits (first_lies x begin left right lies)
            (omega (arith, deep, enough)) ex o around end n (choose decides rest off)
            (choose decides on rest) (choose_grows decides rest off gr gn)
            (choose_grows decides on rest gy gr)
            (joint_taken x ex o around end d n off on rest decides when to q (omega arith)
            (two.ends x lr.lie) taken end_does)
            (joint_goes x ex o around end d n off on rest decides p
            (λ u i g. two.does x site same turns calls v fits lr (omega (arith, deep, enough)) ex o
            around end d off on gn gy taken end_does u i g)) w c s));
      }

-- ---- `&&` and `||`

same_zero : (z : ℤ) → is_zero (cells.not (cells.not z)) ≡ is_zero z
same_zero (pos zero) = refl
same_zero (pos (suc n)) = refl
same_zero (negsuc n) = refl

module _ (scene : Scene) (fewer : Fewer) (r : Expr) (off on : Run Way) where
  -- a right operand's truth is its own
  rest_is : (result : ℤ → ℤ) → ((z : ℤ) → is_zero (result z) ≡ is_zero z) → (u : World)
      → (value scene fewer r >>= (λ z. at_zero z off on)) u
      ≡ ((value scene fewer r >>= (λ z. give (result z))) >>= (λ z. at_zero z off on)) u
  rest_is result same u =
      same_behind (value scene fewer r u) (λ z. at_zero z off on)
      (λ z. give (result z) >>= (λ z. at_zero z off on))
      (λ z m. ap (λ b. choose b off on m) (sym (same z)))
      ∙ sym (regrouped (value scene fewer r u) (λ z. give (result z)) (λ z. at_zero z off on))

  and_by : (y : ℤ) (u : World) (b : Bool) → is_zero y ≡ b
      → choose b off (value scene fewer r >>= (λ z. at_zero z off on)) u
      ≡ (choose b (give (pos 0)) (value scene fewer r >>= (λ z. give (logical logic.And y z)))
      >>= (λ z. at_zero z off on)) u
  and_by y u true e = refl
  and_by y u false e =
      rest_is (logical logic.And y)
      (λ z. ap is_zero (sym (and_value y z e)) ∙ same_zero z) u

  or_by : (y : ℤ) (u : World) (b : Bool) → is_zero y ≡ b
      → choose b (value scene fewer r >>= (λ z. at_zero z off on)) on u
      ≡ (choose b (value scene fewer r >>= (λ z. give (logical logic.Or y z))) (give (pos 1))
      >>= (λ z. at_zero z off on)) u
  or_by y u true e =
      rest_is (logical logic.Or y) (λ z. ap is_zero (sym (or_value y z e)) ∙ same_zero z) u
  or_by y u false e = refl

pub and_joint : (l r : Expr) → Joint false l r (And l r)
and_joint l r = record {
  is = λ scene fewer off on w.
      let rest = value scene fewer r >>= (λ z. at_zero z off on) in
      let go : ℤ → Run ℤ = λ y. at_zero y (give (pos 0))
      (value scene fewer r >>= (λ z. give (logical logic.And y z))) in
      same_behind (value scene fewer l w) (λ y. at_zero y off rest)
      (λ y. go y >>= (λ z. at_zero z off on))
      (λ y u. and_by scene fewer r off on y u (is_zero y) refl)
      ∙ sym (regrouped (value scene fewer l w) go (λ z. at_zero z off on));
  enough = omega arith;
}

pub or_joint : (l r : Expr) → Joint true l r (Or l r)
or_joint l r = record {
  is = λ scene fewer off on w.
      let rest = value scene fewer r >>= (λ z. at_zero z off on) in
      let go : ℤ → Run ℤ = λ y. at_zero y
      (value scene fewer r >>= (λ z. give (logical logic.Or y z))) (give (pos 1)) in
      same_behind (value scene fewer l w) (λ y. at_zero y rest on)
      (λ y. go y >>= (λ z. at_zero z off on))
      (λ y u. or_by scene fewer r off on y u (is_zero y) refl)
      ∙ sym (regrouped (value scene fewer l w) go (λ z. at_zero z off on));
  enough = omega arith;
}
