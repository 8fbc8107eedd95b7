-- Operators, by how their right operand comes.
use Rattle.std.proofs.Common.{◌≡◌, ◌+◌, ◌*◌, ℕ, ℤ, pos, List, ◌∷◌, ◌++◌, Option, None, Some, length}
use Rattle.std.proofs.Common.{refl, sym, subst, ◌∙◌, arith}
use Rattle.pawn_cells.specs.declared.operator.Operator.{Operator}
use Rattle.pawn_cells.specs.Cells.{IsCell}
use Rattle.pawn_cells.specs.Operators.{binary}
use Rattle.host_script.specs.declared.event.End.TheVariants as end
use Rattle.pawn_meaning.specs.Program.{Scalar, Expr, Read, Binary}
use Rattle.pawn_meaning.specs.Scope.{Scope}
use Rattle.pawn_meaning.specs.ValidExprs.{IsValidExpr}
use Rattle.pawn_meaning.specs.Fold.{fold}
use Rattle.pawn_meaning.specs.Memory.{read}
use Rattle.pawn_meaning.specs.Run.{Outcome, Gives, Stops, More, Run, ◌>>=◌, then_do, or_stop, look}
use Rattle.pawn_meaning.specs.Meaning.{place, value}
use Rattle.pawn_meaning.proofs.Grows.{after_grows, or_stop_grows}
use Rattle.pawn_meaning.proofs.FoldLaws.{fold_means_lem}
use Rattle.amx_ops.specs.declared.op.Op.{Op}
use Rattle.amx_ops.specs.declared.op.Op.TheVariants as op
use Rattle.amx_ops.specs.Written.{cells_of}
use Rattle.gen_sim.specs.Stands.{Stands, With}
use Rattle.gen_sim.specs.Site.{DoesAt, scene_at}
use Rattle.gen_sim.specs.Items.{Item, item_cells, past, with}
use Rattle.gen_sim.specs.Code.{with_turns}
use Rattle.gen_sim.specs.Contract.{ValueCode, PushedCode}
use Rattle.gen_sim.specs.SimpleCode.{alone, taking, operator_code}
use Rattle.gen_sim.specs.DirectCode.{Direct}
use Rattle.gen_sim.specs.OperandCode.{Right, Known, Placed, Waiting, right_by, loaded_code}
use Rattle.gen_sim.specs.OperandCode.{known_code, operate_by}
use Rattle.gen_sim.specs.PushCode.{pushed_by, left_by}
use Rattle.gen_sim.proofs.ItemSteps.{next_lies, item_pops_alt}
use Rattle.gen_sim.proofs.NodesPartLaws.{nodes_of, then_items}
use Rattle.gen_sim.proofs.OperandLaws.{loaded_does, known_does}
use Rattle.gen_sim.proofs.DirectLaws.{DirectPlace, found_does, direct_left}
use Rattle.gen_sim.proofs.OperatorLaws.{operator_does}
use Rattle.gen_sim.proofs.FoldNodes.{fold_cell}

-- a run behind two others
pub runs_on : {A B C : Type 0} (o : Outcome A) (f : A → Run B) (g : B → Run C)
    → then_do o (λ a. f a >>= g) ≡ then_do (then_do o f) g
runs_on (Gives a w) f g = refl
runs_on (Stops e w) f g = refl
runs_on (More w) f g = refl

-- an expression reads a direct place
pub record ReadsDirect (scope : Scope) (e : Expr) (d : Direct) : Type 0 where
  pub place : Scalar
  pub is : e ≡ Read place
  pub direct : DirectPlace scope place d

-- where it is said to read one
abbrev pub PerhapsReads : Scope → Expr → Option Direct → Type 0
PerhapsReads scope e None = Unit {0}
PerhapsReads scope e (Some d) = ReadsDirect scope e d

-- an expression comes so
abbrev pub Comes : Scope → Expr → Right → Type 0
Comes scope e (Known v) = (fold e ≡ Some v) × IsCell v
Comes scope e (Placed d) = ReadsDirect scope e d
Comes scope e Waiting = Unit {0}

pub right_comes : (scope : Scope) (e : Expr) → IsValidExpr scope e → (o : Option Direct)
    → PerhapsReads scope e o → (k : Option ℤ) → fold e ≡ k → Comes scope e (right_by k o)
right_comes scope e h o reads (Some v) is = (is, fold_cell scope e h v is)
right_comes scope e h (Some d) reads None is = reads
right_comes scope e h None reads None is = tt

module _ (scope : Scope) (begin : ℕ) (o : Operator) (l : Expr) (left : List Item)
    (one : ValueCode scope l begin left) where
  -- a known one
  binary_known : (r : Expr) (v : ℤ) → fold r ≡ Some v → IsCell v
      → ValueCode scope (Binary o l r) begin (left ++ known_code o v)
  binary_known r z is fz = record {
    does = λ x site same turns calls v fits lie starts pending deep w c s.
        let fewer = with_turns x turns in
        let q = past begin left in
        let rest = λ (y : ℤ) (a : ℤ). or_stop (binary o y a) (end.Error (pos 11)) in
        then_items x begin left (known_code o z) (With x.program x.room v pending q)
        (λ n. With x.program x.room v pending n) w (record { lie = lie; starts = starts })
        (value (scene_at x) fewer l w) (λ y. value (scene_at x) fewer r >>= rest y)
        (λ y u. (after_grows ((nodes_of x turns).values r)
        (λ a. or_stop_grows (binary o y a) (end.Error (pos 11)))).at u)
        (λ k. one.does x site same turns calls v fits k.lie k.starts pending
        (omega (arith, deep)) w c s)
        (λ k y u t a. subst (λ m. DoesAt x (length (item_cells (known_code o z))) u t
        (then_do m (rest y)) (With x.program x.room v pending (past q (known_code o z))))
        (sym (((fold_means_lem (scene_at x) fewer r z).0 is).1 u))
        (known_does x y z o a.fits fz q t a.stands a.value k));
  }

  -- a direct place's cell
  binary_placed : (p : Scalar) (d : Direct) → DirectPlace scope p d
      → ValueCode scope (Binary o l (Read p)) begin
      (left ++ (taking d.loads_alt d.operand ∷ loaded_code o))
  binary_placed p d part = record {
    does = λ x site same turns calls v fits lie starts pending deep w c s.
        let fewer = with_turns x turns in
        let q = past begin left in
        let last = taking d.loads_alt d.operand ∷ loaded_code o in
        let rest = λ (y : ℤ) (a : ℤ). or_stop (binary o y a) (end.Error (pos 11)) in
        then_items x begin left last (With x.program x.room v pending q)
        (λ n. With x.program x.room v pending n) w (record { lie = lie; starts = starts })
        (value (scene_at x) fewer l w) (λ y. value (scene_at x) fewer (Read p) >>= rest y)
        (λ y u. (after_grows ((nodes_of x turns).values (Read p))
        (λ a. or_stop_grows (binary o y a) (end.Error (pos 11)))).at u)
        (λ k. one.does x site same turns calls v fits k.lie k.starts pending
        (omega (arith, deep)) w c s)
        (λ k y u t a. subst (λ m. DoesAt x (length (item_cells last)) u t m
        (With x.program x.room v pending (past q last)))
        (runs_on (place (scene_at x) fewer p u) (λ at. look (read at)) (rest y))
        (found_does x d a.stands (place (scene_at x) fewer p u)
        (part.finds x same fewer v fits a.stands) (λ at. look (read at) >>= rest y)
        (λ at r. direct_left x d at r q u t a.stands k (rest y)
        (λ b n fb j alt pri. loaded_does x y b o a.fits fb
        (q + 4 * length (cells_of (with d.loads_alt d.operand))) n j (pri ∙ a.value) alt
        (next_lies x q (taking d.loads_alt d.operand) (loaded_code o) k)))));
  }

-- one that waits on the stack while the right one is made
binary_waiting : (scope : Scope) (begin : ℕ) (o : Operator) (l r : Expr) (waits right : List Item)
    → PushedCode scope l begin waits → ValueCode scope r (past begin waits) right
    → ValueCode scope (Binary o l r) begin
    (waits ++ (right ++ (alone op.PopAlt ∷ operator_code o)))
binary_waiting scope begin o l r waits right one two = record {
  does = λ x site same turns calls v fits lie starts pending deep w c s.
      let fewer = with_turns x turns in
      let q = past begin waits in
      let last = alone op.PopAlt ∷ operator_code o in
      let rest = λ (y : ℤ) (a : ℤ). or_stop (binary o y a) (end.Error (pos 11)) in
      then_items x begin waits (right ++ last)
      (λ y u t. Stands x.program x.room v (y ∷ pending) q u t × IsCell y)
      (λ n. With x.program x.room v pending n) w (record { lie = lie; starts = starts })
      (value (scene_at x) fewer l w) (λ y. value (scene_at x) fewer r >>= rest y)
      (λ y u. (after_grows ((nodes_of x turns).values r)
      (λ a. or_stop_grows (binary o y a) (end.Error (pos 11)))).at u)
      (λ k. one.does x site same turns calls v fits k.lie k.starts pending
      (omega (arith, deep)) w c s)
      (λ k y u t a. then_items x q right last (With x.program x.room v (y ∷ pending) (past q right))
      (λ n. With x.program x.room v pending n) u k (value (scene_at x) fewer r u) (rest y)
      (λ z m. (or_stop_grows (binary o y z) (end.Error (pos 11))).at m)
      (λ j. two.does x site same turns calls v fits j.lie j.starts (y ∷ pending)
      (omega (arith, deep)) u t a.0)
      (λ j z m n b. item_pops_alt x b.stands j
      (λ h i alt pri. operator_does x y z o a.1 b.fits (past q right + 4) h i (pri ∙ b.value) alt
      (next_lies x (past q right) (alone op.PopAlt) (operator_code o) j))));
}

-- each
pub binary_by_does : (scope : Scope) (begin : ℕ) (o : Operator) (l r : Expr) (how : Right)
    → Comes scope r how → (push : Option (Op × ℤ)) (left right : List Item)
    → ValueCode scope l begin left → PushedCode scope l begin (pushed_by push left)
    → ValueCode scope r (past begin (left_by how push left)) right
    → ValueCode scope (Binary o l r) begin (left_by how push left ++ operate_by o how right)
binary_by_does scope begin o l r (Known v) h push left right one waits two =
    binary_known scope begin o l left one r v h.0 h.1
binary_by_does scope begin o l r (Placed d) h push left right one waits two =
    subst (λ e. ValueCode scope (Binary o l e) begin
    (left ++ (taking d.loads_alt d.operand ∷ loaded_code o))) (sym h.is)
    (binary_placed scope begin o l left one h.place d h.direct)
binary_by_does scope begin o l r Waiting h push left right one waits two =
    binary_waiting scope begin o l r (pushed_by push left) right waits two
