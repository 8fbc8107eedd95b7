-- What is known of PRI and ALT behind the code of a condition.
use Rattle.std.proofs.Common.{◌≡◌, ◌+◌, ◌≤◌, ℕ, ℤ, zero, suc, pos, negsuc, List, ◌++◌}
use Rattle.std.proofs.Common.{Bool, true, false, None, Some, length, max, refl, sym, ap}
use Rattle.std.proofs.Common.{subst, ◌∙◌, arith, not as no}
use Rattle.pawn_cells.specs.declared.operator.Prefix.TheVariants as before
use Rattle.pawn_cells.specs.declared.operator.Operator.TheVariants as between
use Rattle.pawn_cells.specs.declared.operator.Comparison.{Comparison}
use Rattle.pawn_cells.specs.declared.operator.Comparison.TheVariants as comparison
use Rattle.pawn_cells.specs.Cells.{is_zero, truth, equal}
use Rattle.pawn_cells.specs.Operators.{binary, prefix, compare}
use Rattle.pawn_meaning.specs.Program.{Expr, Unary, Binary, Chain, then_link, no_links}
use Rattle.pawn_meaning.specs.Scope.{Scope}
use Rattle.pawn_meaning.specs.Need.{load}
use Rattle.pawn_meaning.specs.World.{World}
use Rattle.pawn_meaning.specs.Run.{Gives, Run, ◌>>=◌, then_do, give}
use Rattle.pawn_meaning.specs.Fold.{fold}
use Rattle.pawn_meaning.proofs.FoldLaws.{fold_means_lem}
use Rattle.gen_sim.proofs.OperatorNodes.{same_behind}
use Rattle.pawn_meaning.specs.Meaning.{Scene, Fewer, value}
use Rattle.pawn_meaning.proofs.Grows.{after_grows, give_grows}
use Rattle.amx_ops.specs.State.{State}
use Rattle.gen_sim.specs.Stands.{Stands, With}
use Rattle.gen_sim.specs.Site.{DoesAt, scene_at}
use Rattle.gen_sim.specs.Items.{Item, item_cells, past}
use Rattle.gen_sim.specs.Code.{with_turns}
use Rattle.gen_sim.specs.Contract.{ValueCode, TestCode}
use Rattle.gen_sim.specs.OperandCode.{Right, Known, Placed, Waiting, bring_code}
use Rattle.gen_sim.specs.TestCode.{Test, IsZero, IsSet, AreSame, AreOther, IsLess, IsAtMost}
use Rattle.gen_sim.specs.TestCode.{IsGreater, IsAtLeast, holds, opposite, link_test, mirrored}
use Rattle.gen_sim.specs.TestCode.{test_by, zero_by, zero_test, test_behind, test_code}
use Rattle.gen_sim.proofs.NodesPartLaws.{nodes_of, then_items, gives_of, does_as}
use Rattle.gen_sim.proofs.OperandNodes.{Comes}
use Rattle.gen_sim.proofs.BringNodes.{Sides, Brought, bring_does}
use Rattle.gen_sim.proofs.TestLaws.{opposite_holds}

pub truth_zero : (b : Bool) → is_zero (truth b) ≡ no b
truth_zero true = refl
truth_zero false = refl

truth_set : (b : Bool) → no (is_zero (truth b)) ≡ b
truth_set true = refl
truth_set false = refl

module _ (scope : Scope) (begin : ℕ) where
  -- a value is told by itself
  pub value_test : (e : Expr) (items : List Item) → ValueCode scope e begin items
      → TestCode scope e IsSet begin items
  value_test e items part = record {
    does = λ x site same turns calls v fits lie starts pending deep w c s.
        does_as x (length (item_cells items)) w (value (scene_at x) (with_turns x turns) e w)
        (With x.program x.room v pending (past begin items))
        (λ y n i k. (k.stands, ap (λ z. no (is_zero z)) k.value))
        (part.does x site same turns calls v fits lie starts pending deep w c s);
  }

  -- `!`
  pub not_test : (e : Expr) (t : Test) (items : List Item) → TestCode scope e t begin items
      → TestCode scope (Unary before.Not e) (opposite t) begin items
  not_test e t items part = record {
    does = λ x site same turns calls v fits lie starts pending deep w c s.
        gives_of x (length (item_cells items)) w (value (scene_at x) (with_turns x turns) e w)
        (λ y. prefix before.Not y)
        (λ y u i. Stands x.program x.room v pending (past begin items) u i
        × (holds t i.state.pri i.state.alt ≡ no (is_zero y)))
        (λ y n i k. (
          k.0,
          opposite_holds t i.state.pri i.state.alt ∙ ap no k.1
              ∙ sym (ap no (truth_zero (is_zero y))),
        ))
        (part.does x site same turns calls v fits lie starts pending (omega (arith, deep)) w c s);
  }

-- ---- two operands

-- the value of an expression is whether a test holds of its operands
pub record Pairs (e l r : Expr) (t : Test) : Type 0 where
  pub is : (scene : Scene) (fewer : Fewer) (w : World)
      → (value scene fewer l >>= (λ y. value scene fewer r >>= (λ z. give (truth (holds t y z))))) w
      ≡ value scene fewer e w
  pub enough : 1 + max (load l) (load r) ≤ load e

equal_swaps : (y z : ℤ) → equal y z ≡ equal z y
equal_swaps y z = grind arith

-- tests of two operands
abbrev pub Two : Test → Type 0
Two IsZero = ⊥
Two IsSet = ⊥
Two t = Unit {0}

mirrors : (t : Test) → Two t → (y z : ℤ) → holds (mirrored t) z y ≡ holds t y z
mirrors AreSame h y z = equal_swaps z y
mirrors AreOther h y z = ap no (equal_swaps z y)
mirrors IsLess h y z = refl
mirrors IsAtMost h y z = refl
mirrors IsGreater h y z = refl
mirrors IsAtLeast h y z = refl
mirrors IsZero h y z = absurd h
mirrors IsSet h y z = absurd h

sided : (how : Right) (t : Test) → Two t → (y z : ℤ) (s : State) → Sides how y z s
    → holds (test_by how t) s.pri s.alt ≡ holds t y z
sided (Known v) t two y z s h = ap (λ i. holds t i s.alt) h.0 ∙ ap (λ i. holds t y i) h.1
sided (Placed d) t two y z s h = ap (λ i. holds t i s.alt) h.0 ∙ ap (λ i. holds t y i) h.1
sided Waiting t two y z s h =
    ap (λ i. holds (mirrored t) i s.alt) h.1 ∙ ap (λ i. holds (mirrored t) z i) h.0
    ∙ mirrors t two y z

-- of the cell 0
zero_same : (y : ℤ) → is_zero y ≡ equal y (pos 0)
zero_same (pos zero) = refl
zero_same (pos (suc n)) = grind arith
zero_same (negsuc n) = grind arith

module _ (scope : Scope) (begin : ℕ) (e l r : Expr) (t : Test) (two : Two t) (pair : Pairs e l r t)
    (left right : List Item) (one : ValueCode scope l begin left)
    (other : ValueCode scope r (past begin left + 4) right) where
  pub pair_test : (how : Right) → Comes scope r how
      → TestCode scope e (test_by how t) begin (left ++ bring_code how right)
  pair_test how comes = record {
    does = λ x site same turns calls v fits lie starts pending deep w c s.
        let fewer = with_turns x turns in
        let p = past begin left in
        let code = left ++ bring_code how right in
        let go : ℤ → Run ℤ =
        λ y. value (scene_at x) fewer r >>= (λ z. give (truth (holds t y z))) in
        let room = pair.enough in
        subst (λ m. DoesAt x (length (item_cells code)) w c m
        (λ y u i. Stands x.program x.room v pending (past begin code) u i
        × (holds (test_by how t) i.state.pri i.state.alt ≡ no (is_zero y))))
        (pair.is (scene_at x) fewer w)
        (then_items x begin left (bring_code how right) (With x.program x.room v pending p)
        (λ q y u i. Stands x.program x.room v pending q u i
        × (holds (test_by how t) i.state.pri i.state.alt ≡ no (is_zero y))) w
        (record { lie = lie; starts = starts }) (value (scene_at x) fewer l w) go
        (λ y u. (after_grows ((nodes_of x turns).values r)
        (λ z. give_grows (truth (holds t y z)))).at u)
        (λ j. one.does x site same turns calls v fits j.lie j.starts pending
        (omega (arith, deep, room)) w c s)
        (λ j y u i a. gives_of x (length (item_cells (bring_code how right))) u
        (value (scene_at x) fewer r u) (λ z. truth (holds t y z))
        (Brought x v pending (past p (bring_code how right)) how y)
        (λ z n k b. (
          b.stands,
          sided how t two y z k.state b.sides ∙ sym (truth_set (holds t y z)),
        ))
        (bring_does scope p r right other x site same turns calls v fits pending
        (omega (arith, deep, room)) y u i a how comes j)));
  }

  -- a right operand that is 0, by a test of the left one alone
  zero_pair : (u : Test) → ((y a : ℤ) → holds u y a ≡ holds t y (pos 0)) → fold r ≡ Some (pos 0)
      → TestCode scope e u begin left
  zero_pair u same_test is = record {
    does = λ x site same turns calls v fits lie starts pending deep w c s.
        let fewer = with_turns x turns in
        let known = (fold_means_lem (scene_at x) fewer r (pos 0)).0 is in
        let go : ℤ → Run ℤ =
        λ y. value (scene_at x) fewer r >>= (λ z. give (truth (holds t y z))) in
        let by_zero : ℤ → Run ℤ = λ y. give (truth (holds t y (pos 0))) in
        let room = pair.enough in
        subst (λ m. DoesAt x (length (item_cells left)) w c m
        (λ y n i. Stands x.program x.room v pending (past begin left) n i
        × (holds u i.state.pri i.state.alt ≡ no (is_zero y))))
        (same_behind (value (scene_at x) fewer l w) by_zero go
        (λ y n. sym (ap (λ m. then_do m (λ z. give (truth (holds t y z)))) (known.1 n)))
        ∙ pair.is (scene_at x) fewer w)
        (gives_of x (length (item_cells left)) w (value (scene_at x) fewer l w)
        (λ y. truth (holds t y (pos 0))) (With x.program x.room v pending (past begin left))
        (λ y n i k. (
          k.stands,
          same_test i.state.pri i.state.alt
              ∙ ap (λ z. holds t z (pos 0)) k.value
              ∙ sym (truth_set (holds t y (pos 0))),
        ))
        (one.does x site same turns calls v fits lie starts pending
        (omega (arith, deep, room)) w c s));
  }

zero_is : (v : ℤ) → is_zero v ≡ true → v ≡ pos 0
zero_is (pos zero) h = refl
zero_is (pos (suc n)) h = cc
zero_is (negsuc n) h = cc

-- by whether it is
module _ (scope : Scope) (begin : ℕ) (e l r : Expr) (left right : List Item)
    (one : ValueCode scope l begin left)
    (other : ValueCode scope r (past begin left + 4) right) where
  known_told : (t : Test) → Two t → Pairs e l r t → (v : ℤ) → Comes scope r (Known v)
      → (b : Bool) → equal v (pos 0) ≡ b
      → TestCode scope e (test_behind (zero_by t b) (Known v) t) begin
      (test_code (zero_by t b) (Known v) left right)
  known_told AreSame two pair v comes true z =
      zero_pair scope begin e l r AreSame two pair left right one other IsZero
      (λ y a. zero_same y) (comes.0 ∙ ap Some (zero_is v (zero_same v ∙ z)))
  known_told AreOther two pair v comes true z =
      zero_pair scope begin e l r AreOther two pair left right one other IsSet
      (λ y a. ap no (zero_same y)) (comes.0 ∙ ap Some (zero_is v (zero_same v ∙ z)))
  known_told t two pair v comes b z =
      pair_test scope begin e l r t two pair left right one other (Known v) comes

  pub told_does : (t : Test) → Two t → Pairs e l r t → (how : Right) → Comes scope r how
      → TestCode scope e (test_behind (zero_test t how) how t) begin
      (test_code (zero_test t how) how left right)
  told_does t two pair (Known v) comes = known_told t two pair v comes (equal v (pos 0)) refl
  told_does t two pair (Placed d) comes =
      pair_test scope begin e l r t two pair left right one other (Placed d) comes
  told_does t two pair Waiting comes =
      pair_test scope begin e l r t two pair left right one other Waiting comes

-- ---- which expressions are such

pub equal_pairs : (l r : Expr) → Pairs (Binary between.Equal l r) l r AreSame
unfolding binary
equal_pairs l r = record { is = λ scene fewer w. refl; enough = omega arith }

pub differ_pairs : (l r : Expr) → Pairs (Binary between.NotEqual l r) l r AreOther
unfolding binary
differ_pairs l r = record { is = λ scene fewer w. refl; enough = omega arith }

pub link_two : (o : Comparison) → Two (link_test o)
link_two comparison.Less = tt
link_two comparison.LessEqual = tt
link_two comparison.Greater = tt
link_two comparison.GreaterEqual = tt

link_holds : (o : Comparison) (y z : ℤ) → holds (link_test o) y z ≡ compare o y z
link_holds comparison.Less y z = refl
link_holds comparison.LessEqual y z = refl
link_holds comparison.Greater y z = refl
link_holds comparison.GreaterEqual y z = refl

pub link_pairs : (o : Comparison) (l r : Expr) (swapped : Bool)
    → Pairs (Chain l (then_link o r None swapped no_links)) l r (link_test o)
link_pairs o l r swapped = record {
  is = λ scene fewer w. same_behind (value scene fewer l w)
      (λ y. value scene fewer r >>= (λ z. give (truth (holds (link_test o) y z))))
      (λ y. value scene fewer r >>= (λ z. give (truth (compare o y z))))
      (λ y n. same_behind (value scene fewer r n)
      (λ z. give (truth (holds (link_test o) y z))) (λ z. give (truth (compare o y z)))
      (λ z m. ap (λ b. Gives (truth b) m) (link_holds o y z)));
  enough = omega arith;
}
