-- An operator has the code of its parts, by how its right operand comes; what folds is a constant.
use Rattle.std.proofs.Common.{◌≡◌, ◌*◌, ℕ, ℤ, List, [], ◌∷◌, ◌++◌, Option, None, Some, length}
use Rattle.std.proofs.Common.{sym, ap, subst, Result, IfOk}
use Rattle.pawn_cells.specs.declared.operator.Operator.{Operator}
use Rattle.pawn_meaning.specs.Program.{Expr, Const, Read, Unary, Binary, Chain, And, Or, Cond}
use Rattle.pawn_meaning.specs.Program.{Assign, Update, UpdateBy, Step, StepBy, Copy, Operate}
use Rattle.pawn_meaning.specs.Program.{OperateOne, Call, Native, Seq}
use Rattle.pawn_meaning.specs.Scope.{Scope}
use Rattle.pawn_meaning.specs.Fold.{fold}
use Rattle.amx_ops.specs.declared.op.Op.{Op}
use Rattle.amx_ops.specs.declared.op.Op.TheVariants as op
use Rattle.gen_sim.specs.Items.{Item, past}
use Rattle.gen_sim.specs.SimpleCode.{alone, taking, operator_code, const_code, folded}
use Rattle.gen_sim.specs.OperandCode.{Right, Waiting, operate_by}
use Rattle.gen_sim.specs.PushCode.{pushed_by, left_by}
use Rattle.gen_laws.specs.ExprCode.{value_items}
use Rattle.gen_expr.specs.Built.{Built, with_items}
use Rattle.gen_expr.proofs.GrowLaws.{then_ok}
use Rattle.gen_expr.proofs.NodeLaws.{then_part}

-- ---- behind the left operand

pub operated_waiting : {E : Type 0} (o : Operator) (how : Right) (right : List Item) (b m n : Built)
    (r : Result Built E) → how ≡ Waiting → m ≡ with_items right b
    → n ≡ with_items (alone op.PopAlt ∷ []) m → IfOk r (λ x. x ≡ with_items (operator_code o) n)
    → IfOk r (λ x. x ≡ with_items (operate_by o how right) b)
operated_waiting o how right b m n r is e f g =
    subst (λ k. IfOk r (λ x. x ≡ with_items (operate_by o k right) b)) (sym is)
    (then_ok b m r right (alone op.PopAlt ∷ operator_code o) e
    (then_ok m n r (alone op.PopAlt ∷ []) (operator_code o) f g))

-- an operator with both its operands
pub then_operate : {E : Type 0} (o : Operator) (how there : Right) (b m : Built)
    (r : Result Built E) (push : Option (Op × ℤ)) (left : List Item) (right : ℕ → List Item)
    → how ≡ there → m ≡ with_items (left_by how push left) b
    → IfOk r (λ x. x ≡ with_items (operate_by o how (right (4 * length m.code))) m)
    → IfOk r (λ x. x ≡ with_items (left_by there push left
    ++ operate_by o there (right (past (4 * length b.code) (left_by there push left)))) b)
then_operate o how there b m r push left right is e f =
    subst (λ k. IfOk r (λ x. x ≡ with_items (left_by k push left
    ++ operate_by o k (right (past (4 * length b.code) (left_by k push left)))) b)) is
    (then_part b m r (left_by how push left) (λ q. operate_by o how (right q)) e f)

-- ---- what is pushed

pub pushed_at_once : {E : Type 0} (push : Option (Op × ℤ)) (it : Op × ℤ) (part : List Item)
    (b : Built) (r : Result Built E) → Some it ≡ push
    → IfOk r (λ x. x ≡ with_items (taking it.0 it.1 ∷ []) b)
    → IfOk r (λ x. x ≡ with_items (pushed_by push part) b)
pushed_at_once push it part b r is e =
    subst (λ k. IfOk r (λ x. x ≡ with_items (pushed_by k part) b)) is e

pub pushed_behind : {E : Type 0} (push : Option (Op × ℤ)) (part : List Item) (b m : Built)
    (r : Result Built E) → None ≡ push → m ≡ with_items part b
    → IfOk r (λ x. x ≡ with_items (alone op.PushPri ∷ []) m)
    → IfOk r (λ x. x ≡ with_items (pushed_by push part) b)
pushed_behind push part b m r is e f =
    subst (λ k. IfOk r (λ x. x ≡ with_items (pushed_by k part) b)) is
    (then_ok b m r part (alone op.PushPri ∷ []) e f)

-- ---- what folds

-- what doesn't has its node's items
pub open_node : {E : Type 0} (k : Option ℤ) (items : List Item) (b : Built) (r : Result Built E)
    → k ≡ None → IfOk r (λ x. x ≡ with_items items b)
    → IfOk r (λ x. x ≡ with_items (folded k items) b)
open_node k items b r is e =
    subst (λ j. IfOk r (λ x. x ≡ with_items (folded j items) b)) (sym is) e

known_as : (k : Option ℤ) (v : ℤ) (items : List Item) → k ≡ Some v → folded k items ≡ const_code v
known_as k v items is = ap (λ j. folded j items) is

-- what does is its constant
constant_items : (scope : Scope) (begin : ℕ) (e : Expr) (v : ℤ) → fold e ≡ Some v
    → value_items scope begin e ≡ const_code v
constant_items scope begin (Const u) v is = let same : u ≡ v = cc in ap const_code same
constant_items scope begin (Read p) v is = absurd (no is)
  where
    no : None ≡ Some v → ⊥
    no h = cc
constant_items scope begin (Unary o e) v is = known_as (fold (Unary o e)) v _ is
constant_items scope begin (Binary o l r) v is = known_as (fold (Binary o l r)) v _ is
constant_items scope begin (Chain e links) v is = known_as (fold (Chain e links)) v _ is
constant_items scope begin (And l r) v is = known_as (fold (And l r)) v _ is
constant_items scope begin (Or l r) v is = known_as (fold (Or l r)) v _ is
constant_items scope begin (Cond c a b) v is = known_as (fold (Cond c a b)) v _ is
constant_items scope begin (Assign p e) v is = cc
constant_items scope begin (Update p o e) v is = cc
constant_items scope begin (UpdateBy p f swapped e convert) v is = cc
constant_items scope begin (Step p delta prefix) v is = cc
constant_items scope begin (StepBy p f prefix) v is = cc
constant_items scope begin (Copy to from n) v is = cc
constant_items scope begin (Operate f l r swapped) v is = cc
constant_items scope begin (OperateOne f e) v is = cc
constant_items scope begin (Call f args) v is = cc
constant_items scope begin (Native n args) v is = cc
constant_items scope begin (Seq a b) v is = cc

pub constant_put : {E : Type 0} (scope : Scope) (e : Expr) (v : ℤ) (b : Built) (r : Result Built E)
    → fold e ≡ Some v → IfOk r (λ x. x ≡ with_items (const_code v) b)
    → IfOk r (λ x. x ≡ with_items (value_items scope (4 * length b.code) e) b)
constant_put scope e v b r is f =
    subst (λ items. IfOk r (λ x. x ≡ with_items items b))
    (sym (constant_items scope (4 * length b.code) e v is)) f
