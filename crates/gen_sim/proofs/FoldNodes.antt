-- An expression that folds: what it folds to is a cell, and the constant is its code.
use Rattle.std.proofs.Common.{◌≡◌, ℕ, ℤ, List, Bool, true, false, Option, None, Some, length, refl}
use Rattle.std.proofs.Common.{sym, subst, if◌then◌else◌, not}
use Rattle.std.specs.Prelude.{option_map}
use Rattle.pawn_cells.specs.declared.operator.Prefix.{Prefix}
use Rattle.pawn_cells.specs.declared.operator.Operator.{Operator}
use Rattle.pawn_cells.specs.declared.operator.Operator.TheVariants as between
use Rattle.pawn_cells.specs.declared.operator.Logical.TheVariants as logic
use Rattle.pawn_cells.specs.Cells.{IsCell, is_zero, truth, floor_div, floor_rem}
use Rattle.pawn_cells.specs.Operators.{prefix, binary, logical}
use Rattle.pawn_cells.proofs.CellLaws.{cell_of_cell, wrap_cell, shr_cell, truth_cell, floor_rem_cell}
use Rattle.pawn_meaning.specs.Program.{Expr, Const, Unary, Binary, Chain, And, Or, Cond}
use Rattle.pawn_meaning.specs.Program.{Links, no_links, then_link}
use Rattle.pawn_meaning.specs.Scope.{Scope}
use Rattle.pawn_meaning.specs.ValidExprs.{IsValidExpr}
use Rattle.pawn_meaning.specs.Fold.{is_constant, constant_value, binary_value, and_value, or_value}
use Rattle.pawn_meaning.specs.Fold.{choice_value, links_value, fold}
use Rattle.pawn_meaning.proofs.FoldLaws.{fold_means_lem}
use Rattle.gen_sim.specs.Stands.{With}
use Rattle.gen_sim.specs.Site.{DoesAt, scene_at}
use Rattle.gen_sim.specs.Items.{Item, item_cells, past}
use Rattle.gen_sim.specs.Code.{with_turns}
use Rattle.gen_sim.specs.Contract.{ValueCode}
use Rattle.gen_sim.specs.SimpleCode.{const_code, folded}
use Rattle.gen_sim.proofs.ConstantNodes.{const_does}
use Rattle.gen_sim.proofs.OperatorLaws.{prefix_cell}

-- ---- cells

-- a value, where there is one, is a cell
abbrev pub IsCellIn : Option ℤ → Type 0
IsCellIn None = Unit {0}
IsCellIn (Some v) = IsCell v

truth_in : (c : Option Bool) → IsCellIn (option_map truth c)
truth_in None = tt
truth_in (Some b) = truth_cell b

prefix_in : (o : Prefix) (c : Option ℤ) → IsCellIn (option_map (λ v. prefix o v) c)
prefix_in o None = tt
prefix_in o (Some v) = prefix_cell o v

divided : (b : Bool) (y : ℤ) → IsCell y → IsCellIn (if b then None else Some y)
divided true y f = tt
divided false y f = f

rest_of : (b : Bool) (x y : ℤ) → IsCell x → IsCell y → is_zero y ≡ b
    → IsCellIn (if b then None else Some (floor_rem x y))
rest_of true x y f g e = tt
rest_of false x y f g e = floor_rem_cell x y f g e

operator_in : (o : Operator) (x y : ℤ) → IsCell x → IsCell y → IsCellIn (binary o x y)
unfolding binary
operator_in between.Multiply x y f g = wrap_cell _
operator_in between.Divide x y f g = divided (is_zero y) (floor_div x y) (wrap_cell _)
operator_in between.Remainder x y f g = rest_of (is_zero y) x y f g refl
operator_in between.Add x y f g = wrap_cell _
operator_in between.Subtract x y f g = wrap_cell _
operator_in between.ShiftLeft x y f g = cell_of_cell _
operator_in between.ShiftRight x y f g = shr_cell x y f
operator_in between.ShiftUnsigned x y f g = cell_of_cell _
operator_in between.And x y f g = cell_of_cell _
operator_in between.Xor x y f g = cell_of_cell _
operator_in between.Or x y f g = cell_of_cell _
operator_in between.Equal x y f g = truth_cell _
operator_in between.NotEqual x y f g = truth_cell _

binary_in : (o : Operator) (a b : Option ℤ) → IsCellIn a → IsCellIn b
    → IsCellIn (binary_value o a b)
binary_in o None b f g = tt
binary_in o (Some x) None f g = tt
binary_in o (Some x) (Some y) f g = operator_in o x y f g

links_in : (c : Option ℤ) (links : Links) → IsCellIn c → IsCellIn (links_value c links)
links_in c no_links f = f
links_in c (then_link o e f swapped links) h = truth_in _

and_chosen : (b : Bool) (x : ℤ) (c : Option ℤ)
    → IsCellIn (if not b then option_map (λ v. logical logic.And x v) c else Some (truth false))
and_chosen true x c = truth_cell false
and_chosen false x None = tt
and_chosen false x (Some y) = truth_cell _

and_in : (a b : Option ℤ) → IsCellIn (and_value a b)
and_in None b = tt
and_in (Some x) b = and_chosen (is_zero x) x b

or_chosen : (b : Bool) (x : ℤ) (c : Option ℤ)
    → IsCellIn (if not b then Some (truth true) else option_map (λ v. logical logic.Or x v) c)
or_chosen false x c = truth_cell true
or_chosen true x None = tt
or_chosen true x (Some y) = truth_cell _

or_in : (a b : Option ℤ) → IsCellIn (or_value a b)
or_in None b = tt
or_in (Some x) b = or_chosen (is_zero x) x b

chosen : (b : Bool) (a c : Option ℤ) → IsCellIn a → IsCellIn c
    → IsCellIn (if not b then a else c)
chosen true a c f g = g
chosen false a c f g = f

choice_in : (c a b : Option ℤ) → IsCellIn a → IsCellIn b → IsCellIn (choice_value c a b)
choice_in None a b f g = tt
choice_in (Some x) a b f g = chosen (is_zero x) a b f g

taken : (k : Bool) (c : Option ℤ) → IsCellIn c → (v : ℤ) → (if k then c else None) ≡ Some v
    → IsCell v
taken true None f v h = absurd (no h)
  where
    no : None ≡ Some v → ⊥
    no e = cc
taken true (Some u) f v h = let e : u ≡ v = cc in subst (λ z. IsCell z) e f
taken false c f v h = absurd (no h)
  where
    no : None ≡ Some v → ⊥
    no e = cc

module _ (scope : Scope) where
  constant_cell : (e : Expr) → IsValidExpr scope e → IsCellIn (constant_value e)
  constant_cell (Const v) h = h
  constant_cell (Unary o e) h = prefix_in o (constant_value e)
  constant_cell (Binary o l r) h =
      binary_in o (constant_value l) (constant_value r) (constant_cell l h.0) (constant_cell r h.1)
  constant_cell (Chain e links) h = links_in (constant_value e) links (constant_cell e h.1)
  constant_cell (And l r) h = and_in (constant_value l) (constant_value r)
  constant_cell (Or l r) h = or_in (constant_value l) (constant_value r)
  constant_cell (Cond c a b) h =
      choice_in (constant_value c) (constant_value a) (constant_value b) (constant_cell a h.1)
      (constant_cell b h.2)
  constant_cell e h = tt

  pub fold_cell : (e : Expr) → IsValidExpr scope e → (v : ℤ) → fold e ≡ Some v → IsCell v
  fold_cell e h v is = taken (is_constant e) (constant_value e) (constant_cell e h) v is

  -- ---- its code

  module _ (begin : ℕ) (e : Expr) where
    pub constant_does : (y : ℤ) → IsCell y → fold e ≡ Some y → ValueCode scope e begin (const_code y)
    constant_does y fit is = record {
      does = λ x site same turns calls v fits lie starts pending deep w c s.
          subst (λ o. DoesAt x (length (item_cells (const_code y))) w c o
          (With x.program x.room v pending (past begin (const_code y))))
          (sym (((fold_means_lem (scene_at x) (with_turns x turns) e y).0 is).1 w))
          (const_does x begin y fit (record { lie = lie; starts = starts }) w c s);
    }

    pub folded_does : IsValidExpr scope e → (items : List Item) → ValueCode scope e begin items
        → (k : Option ℤ) → fold e ≡ k → ValueCode scope e begin (folded k items)
    folded_does h items part None is = part
    folded_does h items part (Some v) is = constant_does v (fold_cell e h v is) is
