-- Expressions that fold: what is built of constants and built-in operators alone, and the value
-- that such an expression has, which is the one that the meaning gives.
use Rattle.std.specs.Prelude.{ℤ, pos, Bool, true, false, ◌&&◌, Option, None, Some, option_map}
use Rattle.std.specs.Prelude.{option_and_then, if◌then◌else◌}
use Rattle.pawn_cells.specs.declared.operator.Operator.{Operator}
use Rattle.pawn_cells.specs.declared.operator.Comparison.{Comparison}
use Rattle.pawn_cells.specs.declared.operator.Logical.TheVariants as logic
use Rattle.pawn_cells.specs.Cells.{truth}
use Rattle.pawn_cells.specs.Operators.{is_true, prefix, binary, compare, logical}
use Rattle.pawn_meaning.specs.Program.{Expr, Const, Read, Unary, Binary, Chain, And, Or, Cond}
use Rattle.pawn_meaning.specs.Program.{Assign, Update, UpdateBy, Step, StepBy, Copy, Operate}
use Rattle.pawn_meaning.specs.Program.{OperateOne, Call, Native, Seq, Links, no_links, then_link}

-- built of constants and built-in operators alone, whether all its parts are needed or not
abbrev mutual
  -- an expression that folds
  pub is_constant : Expr → Bool
  is_constant (Const v) = true
  is_constant (Read p) = false
  is_constant (Unary op e) = is_constant e
  is_constant (Binary op l r) = is_constant l && is_constant r
  is_constant (Chain e links) = is_constant e && are_constant links
  is_constant (And l r) = is_constant l && is_constant r
  is_constant (Or l r) = is_constant l && is_constant r
  is_constant (Cond c a b) = is_constant c && (is_constant a && is_constant b)
  is_constant (Assign p e) = false
  is_constant (Update p op e) = false
  is_constant (UpdateBy p f swapped e convert) = false
  is_constant (Step p delta prefix) = false
  is_constant (StepBy p f prefix) = false
  is_constant (Copy to from cells) = false
  is_constant (Operate f l r swapped) = false
  is_constant (OperateOne f e) = false
  is_constant (Call f args) = false
  is_constant (Native n args) = false
  is_constant (Seq a b) = false

  -- the links of a chain, none of which a user's operator stands for
  pub are_constant : Links → Bool
  are_constant no_links = true
  are_constant (then_link op e None swapped links) = is_constant e && are_constant links
  are_constant (then_link op e (Some f) swapped links) = false

-- ---- what operators make of values that may be none

-- of an operator between two operands
abbrev pub binary_value : Operator → Option ℤ → Option ℤ → Option ℤ
binary_value op None y = None
binary_value op (Some x) None = None
binary_value op (Some x) (Some y) = binary op x y

-- the right operand of `&&` is needed only where the left one isn't 0
abbrev pub and_value : Option ℤ → Option ℤ → Option ℤ
and_value None y = None
and_value (Some x) y = if is_true x then option_map (λ v. logical logic.And x v) y else Some (pos 0)

-- and that of `||` only where it is
abbrev pub or_value : Option ℤ → Option ℤ → Option ℤ
or_value None y = None
or_value (Some x) y = if is_true x then Some (pos 1) else option_map (λ v. logical logic.Or x v) y

-- of `? :`
abbrev pub choice_value : Option ℤ → Option ℤ → Option ℤ → Option ℤ
choice_value None a b = None
choice_value (Some x) a b = if is_true x then a else b

-- a link, on its operands
abbrev pub link_value : Comparison → ℤ → Option ℤ → Option Bool
link_value op x None = None
link_value op x (Some y) = Some (compare op x y)

-- a link that holds goes on to the others, from its right operand on
abbrev pub after_link : Option Bool → Option Bool → Option Bool
after_link None others = None
after_link (Some false) others = Some false
after_link (Some true) others = others

-- ---- the value

-- of an expression, as far as it is made of these
abbrev mutual
  -- its value: none where it doesn't fold or divides by zero
  pub constant_value : Expr → Option ℤ
  constant_value (Const v) = Some v
  constant_value (Read p) = None
  constant_value (Unary op e) = option_map (λ v. prefix op v) (constant_value e)
  constant_value (Binary op l r) = binary_value op (constant_value l) (constant_value r)
  constant_value (Chain e links) = links_value (constant_value e) links
  constant_value (And l r) = and_value (constant_value l) (constant_value r)
  constant_value (Or l r) = or_value (constant_value l) (constant_value r)
  constant_value (Cond c a b) =
      choice_value (constant_value c) (constant_value a) (constant_value b)
  constant_value (Assign p e) = None
  constant_value (Update p op e) = None
  constant_value (UpdateBy p f swapped e convert) = None
  constant_value (Step p delta prefix) = None
  constant_value (StepBy p f prefix) = None
  constant_value (Copy to from cells) = None
  constant_value (Operate f l r swapped) = None
  constant_value (OperateOne f e) = None
  constant_value (Call f args) = None
  constant_value (Native n args) = None
  constant_value (Seq a b) = None

  -- of a chain behind its first operand, which is its value where there is no link
  pub links_value : Option ℤ → Links → Option ℤ
  links_value x no_links = x
  links_value x (then_link op e f swapped links) =
      option_map truth (option_and_then
      (λ v. after_link (link_value op v (constant_value e))
      (chain_value (constant_value e) links)) x)

  -- whether all links of a chain hold, behind the operand before them
  pub chain_value : Option ℤ → Links → Option Bool
  chain_value None links = None
  chain_value (Some x) no_links = Some true
  chain_value (Some x) (then_link op e f swapped links) =
      after_link (link_value op x (constant_value e)) (chain_value (constant_value e) links)

-- the value of an expression that is built so, where it has one
abbrev pub fold : Expr → Option ℤ
fold e = if is_constant e then constant_value e else None
