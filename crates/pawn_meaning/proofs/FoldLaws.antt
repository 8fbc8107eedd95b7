-- A constant expression means the value that it is given by its definition, and the end by a zero
-- divisor where it has none. The world stays as it was.
use Rattle.std.proofs.Common.{◌≡◌, ◌↔◌, ℕ, ℤ, pos, Bool, true, false, ◌&&◌, not, if◌then◌else◌}
use Rattle.std.proofs.Common.{Option, Some, None, refl, sym, ap, ◌∙◌, arith}
use Rattle.std.specs.Prelude.{option_map}
use Rattle.host_script.specs.declared.event.End.{End}
use Rattle.host_script.specs.declared.event.End.TheVariants as end
use Rattle.pawn_cells.specs.declared.operator.Prefix.{Prefix}
use Rattle.pawn_cells.specs.declared.operator.Operator.{Operator}
use Rattle.pawn_cells.specs.declared.operator.Comparison.{Comparison}
use Rattle.pawn_cells.specs.declared.operator.Logical.TheVariants as logic
use Rattle.pawn_cells.specs.Cells.{is_zero, truth}
use Rattle.pawn_cells.specs.Operators.{is_true, prefix, binary, compare, logical}
use Rattle.pawn_meaning.specs.Program.{Expr, Const, Read, Unary, Binary, Chain, And, Or, Cond}
use Rattle.pawn_meaning.specs.Program.{Assign, Update, UpdateBy, Step, StepBy, Copy, Operate}
use Rattle.pawn_meaning.specs.Program.{OperateOne, Call, Native, Seq, Links, no_links, then_link}
use Rattle.pawn_meaning.specs.Fold.{is_constant, are_constant, constant_value, links_value}
use Rattle.pawn_meaning.specs.Fold.{chain_value, link_value, after_link, binary_value, and_value}
use Rattle.pawn_meaning.specs.Fold.{or_value, choice_value, fold}
use Rattle.pawn_meaning.specs.FoldMeans.{FoldMeans}
use Rattle.pawn_meaning.specs.Meaning.{Scene, Fewer, value, chain, chained, ended}
use Rattle.pawn_meaning.specs.Run.{Run, Outcome, Gives, Stops, then_do, ◌>>=◌, give, or_stop}
use Rattle.pawn_meaning.specs.Run.{choose, at_zero}
use Rattle.pawn_meaning.specs.World.{World, first_world}

no : {A : Type 0} → false ≡ true → A
no h = absurd (grind (arith, h))

both : (a b : Bool) → (a && b) ≡ true → (a ≡ true) × (b ≡ true)
both true b h = (refl, h)
both false b h = no h

-- a value, or the end by a zero divisor
abbrev told : Option ℤ → Run ℤ
told c = or_stop c (end.Error (pos 11))

-- ---- each operator, on operands that are told so

prefix_told : (op : Prefix) (w : World) (c : Option ℤ) (o : Outcome ℤ) → o ≡ told c w
    → then_do o (λ v. give (prefix op v)) ≡ told (option_map (λ v. prefix op v) c) w
prefix_told op w None o e = rw e refl
prefix_told op w (Some v) o e = rw e refl

binary_told : (op : Operator) (w : World) (a b : Option ℤ) (o : Outcome ℤ) (r : Run ℤ)
    → o ≡ told a w → r w ≡ told b w
    → then_do o (λ x. r >>= λ y. or_stop (binary op x y) (end.Error (pos 11)))
    ≡ told (binary_value op a b) w
binary_told op w None b o r e f = rw e refl
binary_told op w (Some x) None o r e f = rw (e, f) refl
binary_told op w (Some x) (Some y) o r e f = rw (e, f) refl

and_chosen : (w : World) (x : ℤ) (zero : Bool) (b : Option ℤ) (r : Run ℤ) → r w ≡ told b w
    → choose zero (give (pos 0)) (r >>= λ y. give (logical logic.And x y)) w
    ≡ told (if not zero then option_map (λ v. logical logic.And x v) b else Some (pos 0)) w
and_chosen w x true b r f = refl
and_chosen w x false None r f = rw f refl
and_chosen w x false (Some y) r f = rw f refl

and_told : (w : World) (a b : Option ℤ) (o : Outcome ℤ) (r : Run ℤ) → o ≡ told a w → r w ≡ told b w
    → then_do o (λ x. at_zero x (give (pos 0)) (r >>= λ y. give (logical logic.And x y)))
    ≡ told (and_value a b) w
and_told w None b o r e f = rw e refl
and_told w (Some x) b o r e f = rw e (and_chosen w x (is_zero x) b r f)

or_chosen : (w : World) (x : ℤ) (zero : Bool) (b : Option ℤ) (r : Run ℤ) → r w ≡ told b w
    → choose zero (r >>= λ y. give (logical logic.Or x y)) (give (pos 1)) w
    ≡ told (if not zero then Some (pos 1) else option_map (λ v. logical logic.Or x v) b) w
or_chosen w x true None r f = rw f refl
or_chosen w x true (Some y) r f = rw f refl
or_chosen w x false b r f = refl

or_told : (w : World) (a b : Option ℤ) (o : Outcome ℤ) (r : Run ℤ) → o ≡ told a w → r w ≡ told b w
    → then_do o (λ x. at_zero x (r >>= λ y. give (logical logic.Or x y)) (give (pos 1)))
    ≡ told (or_value a b) w
or_told w None b o r e f = rw e refl
or_told w (Some x) b o r e f = rw e (or_chosen w x (is_zero x) b r f)

chosen : (w : World) (zero : Bool) (a b : Option ℤ) (then_run other : Run ℤ) → then_run w ≡ told a w
    → other w ≡ told b w
    → choose zero other then_run w ≡ told (if not zero then a else b) w
chosen w true a b then_run other f g = g
chosen w false a b then_run other f g = f

choice_told : (w : World) (c a b : Option ℤ) (o : Outcome ℤ) (then_run other : Run ℤ) → o ≡ told c w
    → then_run w ≡ told a w → other w ≡ told b w
    → then_do o (λ x. at_zero x other then_run) ≡ told (choice_value c a b) w
choice_told w None a b o then_run other e f g = rw e refl
choice_told w (Some x) a b o then_run other e f g =
    rw e (chosen w (is_zero x) a b then_run other f g)

-- what a chain ends with is 1 or 0 already
ended_truth : (links : Links) (holds : Bool) → ended links (truth holds) ≡ truth holds
ended_truth no_links holds = refl
ended_truth (then_link op e f swapped links) true = refl
ended_truth (then_link op e f swapped links) false = refl

ended_told : (links : Links) (w : World) (holds : Option Bool) (o : Outcome ℤ)
    → o ≡ told (option_map truth holds) w
    → then_do o (λ u. give (ended links u)) ≡ told (option_map truth holds) w
ended_told links w None o e = rw e refl
ended_told links w (Some holds) o e = rw (e, ended_truth links holds) refl

-- ---- expressions

module _ (scene : Scene) (fewer : Fewer) where
  -- a chain that has no first operand
  none_told : (links : Links) (w : World) → told None w ≡ told (links_value None links) w
  none_told no_links w = refl
  none_told (then_link op e f swapped links) w = refl

  chain_told : (links : Links) (w : World) (c : Option ℤ) (o : Outcome ℤ) → o ≡ told c w
      → ((x : ℤ) → chain scene fewer links x w ≡ told (links_value (Some x) links) w)
      → then_do o (λ x. chain scene fewer links x) ≡ told (links_value c links) w
  chain_told links w None o e f = rw e (none_told links w)
  chain_told links w (Some x) o e f = rw e (f x)

  -- links behind one that holds or doesn't
  abbrev GoOn : Links → World → Type 0
  GoOn links w = (y : ℤ) (holds : Bool)
      → chained scene fewer links y (truth holds) w
      ≡ told (option_map truth (after_link (Some holds) (chain_value (Some y) links))) w

  first_told : (op : Comparison) (links : Links) (x : ℤ) (w : World) (c : Option ℤ) (o : Outcome ℤ)
      → o ≡ told c w → GoOn links w
      → then_do o (λ y. give (truth (compare op x y)) >>= λ v. chained scene fewer links y v
      >>= λ u. give (ended links u))
      ≡ told (option_map truth (after_link (link_value op x c) (chain_value c links))) w
  first_told op links x w None o e f = rw e refl
  first_told op links x w (Some y) o e f =
      rw e (ended_told links w (after_link (Some (compare op x y)) (chain_value (Some y) links))
      (chained scene fewer links y (truth (compare op x y)) w)
      (f y (compare op x y)))

  next_told : (op : Comparison) (links : Links) (x : ℤ) (w : World) (c : Option ℤ) (o : Outcome ℤ)
      → o ≡ told c w → GoOn links w
      → then_do o (λ y. give (truth (compare op x y)) >>= λ u. chained scene fewer links y u)
      ≡ told (option_map truth (after_link (link_value op x c) (chain_value c links))) w
  next_told op links x w None o e f = rw e refl
  next_told op links x w (Some y) o e f = rw e (f y (compare op x y))

  mutual
    means : (e : Expr) (w : World) → is_constant e ≡ true
        → value scene fewer e w ≡ told (constant_value e) w
    means (Const v) w k = refl
    means (Unary op e) w k =
        prefix_told op w (constant_value e) (value scene fewer e w) (means e w k)
    means (Binary op l r) w k =
        let h = both (is_constant l) (is_constant r) k in
        binary_told op w (constant_value l) (constant_value r) (value scene fewer l w)
        (value scene fewer r) (means l w h.0) (means r w h.1)
    means (Chain e links) w k =
        let h = both (is_constant e) (are_constant links) k in
        chain_told links w (constant_value e) (value scene fewer e w) (means e w h.0)
        (λ x. chain_means links x w h.1)
    means (And l r) w k =
        let h = both (is_constant l) (is_constant r) k in
        and_told w (constant_value l) (constant_value r) (value scene fewer l w)
        (value scene fewer r) (means l w h.0) (means r w h.1)
    means (Or l r) w k =
        let h = both (is_constant l) (is_constant r) k in
        or_told w (constant_value l) (constant_value r) (value scene fewer l w)
        (value scene fewer r) (means l w h.0) (means r w h.1)
    means (Cond c a b) w k =
        let h = both (is_constant c) (is_constant a && is_constant b) k in
        let g = both (is_constant a) (is_constant b) h.1 in
        choice_told w (constant_value c) (constant_value a) (constant_value b)
        (value scene fewer c w) (value scene fewer a) (value scene fewer b)
        (means c w h.0) (means a w g.0) (means b w g.1)
    means (Read p) w k = no k
    means (Assign p e) w k = no k
    means (Update p op e) w k = no k
    means (UpdateBy p f swapped e convert) w k = no k
    means (Step p delta prefix) w k = no k
    means (StepBy p f prefix) w k = no k
    means (Copy to from cells) w k = no k
    means (Operate f l r swapped) w k = no k
    means (OperateOne f e) w k = no k
    means (Call f args) w k = no k
    means (Native n args) w k = no k
    means (Seq a b) w k = no k

    chain_means : (links : Links) (x : ℤ) (w : World) → are_constant links ≡ true
        → chain scene fewer links x w ≡ told (links_value (Some x) links) w
    chain_means no_links x w k = refl
    chain_means (then_link op e None swapped links) x w k =
        let h = both (is_constant e) (are_constant links) k in
        first_told op links x w (constant_value e) (value scene fewer e w) (means e w h.0)
        (λ y holds. chained_means links y holds w h.1)
    chain_means (then_link op e (Some f) swapped links) x w k = no k

    chained_means : (links : Links) (y : ℤ) (holds : Bool) (w : World) → are_constant links ≡ true
        → chained scene fewer links y (truth holds) w
        ≡ told (option_map truth (after_link (Some holds) (chain_value (Some y) links))) w
    chained_means no_links y true w k = refl
    chained_means no_links y false w k = refl
    chained_means (then_link op e f swapped links) y false w k = refl
    chained_means (then_link op e None swapped links) y true w k =
        let h = both (is_constant e) (are_constant links) k in
        next_told op links y w (constant_value e) (value scene fewer e w) (means e w h.0)
        (λ z holds. chained_means links z holds w h.1)
    chained_means (then_link op e (Some f) swapped links) y true w k = no k

-- ---- the law

folded : (k : Bool) (c : Option ℤ) (v : ℤ) → (if k then c else None) ≡ Some v
    → (k ≡ true) × (c ≡ Some v)
folded true c v h = (refl, h)
folded false c v h = cc

gives_back : (w : World) (c : Option ℤ) (v : ℤ) → told c w ≡ Gives v w → c ≡ Some v
gives_back w None v h = cc
gives_back w (Some u) v h = cc

pub fold_means_lem : FoldMeans
fold_means_lem scene fewer e v = (
  λ h. let it = folded (is_constant e) (constant_value e) v h in
      (it.0, λ w. means scene fewer e w it.0 ∙ ap (λ c. told c w) it.1),
  λ h. let w = first_world scene.program in
      let it = gives_back w (constant_value e) v (sym (means scene fewer e w h.0) ∙ h.1 w) in
      rw h.0 it,
)
