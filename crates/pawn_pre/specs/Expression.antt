-- The expression of a condition: its trees, how each is spelled, and its value (Language Guide,
-- "Operators and expressions", and "Directives", on `#if`). All operands are evaluated.
use Rattle.std.specs.Prelude.{◌≤◌, ℕ, ◌-◌, ℤ, Option, Some, None, List, [], ◌∷◌, ◌++◌}
use Rattle.std.specs.Prelude.{if◌then◌else◌}
use Rattle.pawn_cells.specs.declared.operator.Comparison.{Comparison}
use Rattle.pawn_cells.specs.declared.operator.Comparison.TheVariants as comparison
use Rattle.pawn_cells.specs.declared.operator.Logical.{Logical}
use Rattle.pawn_cells.specs.declared.operator.Logical.TheVariants as logic
use Rattle.pawn_cells.specs.declared.operator.Operator.{Operator}
use Rattle.pawn_cells.specs.declared.operator.Operator.TheVariants as between
use Rattle.pawn_cells.specs.declared.operator.Prefix.{Prefix}
use Rattle.pawn_cells.specs.declared.operator.Prefix.TheVariants as before
use Rattle.pawn_cells.specs.Cells.{is_zero}
use Rattle.pawn_cells.specs.Operators.{level, logical_level, prefix, binary, logical, chain}
use Rattle.pawn_token.specs.declared.kind.TokenKind.{TokenKind}
use Rattle.pawn_token.specs.declared.kind.TokenKind.TheVariants as kind
use Rattle.pawn_token.specs.declared.sign.Sign.{Sign}
use Rattle.pawn_token.specs.declared.sign.Sign.TheVariants as sign

-- an expression, and the links of a chain of comparisons
mutual
  -- numbers, and operators with their operands
  pub data Expr : Type 0 where
    Number : ℤ → Expr
    Group : Expr → Expr
    Unary : Prefix → Expr → Expr
    Binary : Operator → Expr → Expr → Expr
    Logic : Logical → Expr → Expr → Expr
    Chain : Expr → Links → Expr
    Choice : Expr → Expr → Expr → Expr

  -- comparisons, each with its right operand, the last one outermost
  pub data Links : Type 0 where
    First : Comparison → Expr → Links
    Then : Links → Comparison → Expr → Links

-- ---- spelling

-- the sign of an operator before its operand
abbrev pub prefix_sign : Prefix → Sign
prefix_sign before.Not = sign.Exclamation
prefix_sign before.Invert = sign.Tilde
prefix_sign before.Negate = sign.Minus

-- the sign of an operator between two operands
abbrev pub operator_sign : Operator → Sign
operator_sign between.Multiply = sign.Star
operator_sign between.Divide = sign.Slash
operator_sign between.Remainder = sign.Percent
operator_sign between.Add = sign.Plus
operator_sign between.Subtract = sign.Minus
operator_sign between.ShiftLeft = sign.ShiftLeft
operator_sign between.ShiftRight = sign.ShiftRight
operator_sign between.ShiftUnsigned = sign.ShiftUnsigned
operator_sign between.And = sign.Ampersand
operator_sign between.Xor = sign.Caret
operator_sign between.Or = sign.Bar
operator_sign between.Equal = sign.Equal
operator_sign between.NotEqual = sign.NotEqual

-- the sign of a comparison
abbrev pub comparison_sign : Comparison → Sign
comparison_sign comparison.Less = sign.Less
comparison_sign comparison.LessEqual = sign.LessEqual
comparison_sign comparison.Greater = sign.Greater
comparison_sign comparison.GreaterEqual = sign.GreaterEqual

-- the sign of a logical operator
abbrev pub logical_sign : Logical → Sign
logical_sign logic.And = sign.LogicalAnd
logical_sign logic.Or = sign.LogicalOr

-- the tokens of an expression, and of links
unfoldable mutual
  -- the tokens of a tree
  pub spell : Expr → List TokenKind
  spell (Number v) = kind.Number v ∷ []
  spell (Group e) =
      kind.Sign sign.OpenParenthesis ∷ (spell e ++ kind.Sign sign.CloseParenthesis ∷ [])
  spell (Unary op a) = kind.Sign (prefix_sign op) ∷ spell a
  spell (Binary op a b) = spell a ++ (kind.Sign (operator_sign op) ∷ spell b)
  spell (Logic op a b) = spell a ++ (kind.Sign (logical_sign op) ∷ spell b)
  spell (Chain a links) = spell a ++ spell_links links
  spell (Choice c a b) =
      spell c ++ (kind.Sign sign.Question ∷ (spell a ++ (kind.Sign sign.Colon ∷ spell b)))

  -- those of the comparisons of a chain
  pub spell_links : Links → List TokenKind
  spell_links (First c x) = kind.Sign (comparison_sign c) ∷ spell x
  spell_links (Then links c x) = spell_links links ++ (kind.Sign (comparison_sign c) ∷ spell x)

-- it is an expression up to a level: operators of one level group to the left, comparisons of one
-- row are one chain, and choices group to the right
unfoldable mutual
  -- an expression binds at least as tightly as a level asks, and so do its parts
  pub Fits : ℕ → Expr → Type 0
  Fits k (Number v) = Unit {0}
  Fits k (Group e) = Fits 13 e
  Fits k (Unary op a) = (2 ≤ k) × Fits 2 a
  Fits k (Binary op a b) = (level op ≤ k) × Fits (level op) a × Fits (level op - 1) b
  Fits k (Logic op a b) =
      (logical_level op ≤ k) × Fits (logical_level op) a × Fits (logical_level op - 1) b
  Fits k (Chain a links) = (9 ≤ k) × Fits 8 a × FitLinks links
  Fits k (Choice c a b) = (13 ≤ k) × Fits 12 c × Fits 13 a × Fits 13 b

  -- the right operands of a chain
  pub FitLinks : Links → Type 0
  FitLinks (First c x) = Fits 8 x
  FitLinks (Then links c x) = FitLinks links × Fits 8 x

-- ---- values

-- what an operation gives on a value that there is
abbrev pub on_one : (ℤ → ℤ) → Option ℤ → Option ℤ
on_one f None = None
on_one f (Some x) = Some (f x)

-- on two values
abbrev pub on_two : (ℤ → ℤ → Option ℤ) → Option ℤ → Option ℤ → Option ℤ
on_two f None b = None
on_two f (Some x) None = None
on_two f (Some x) (Some y) = f x y

-- the first choice where the condition isn't 0
abbrev pub chosen : Option ℤ → Option ℤ → Option ℤ → Option ℤ
chosen None a b = None
chosen (Some c) a b = on_two (λ x y. Some (if is_zero c then y else x)) a b

-- the values of links
abbrev pub Linked : Type 0
Linked = Option (List (Comparison × ℤ))

-- one more link
abbrev pub with_link : Linked → Comparison → Option ℤ → Linked
with_link None c x = None
with_link (Some links) c None = None
with_link (Some links) c (Some x) = Some (links ++ (c, x) ∷ [])

-- a chain of values
abbrev pub chained : Option ℤ → Linked → Option ℤ
chained None links = None
chained (Some first) None = None
chained (Some first) (Some links) = Some (chain first links)

-- the value of an expression, and none where a divisor in it is zero
unfoldable mutual
  -- the value of a tree: none where it divides by zero
  pub value : Expr → Option ℤ
  value (Number v) = Some v
  value (Group e) = value e
  value (Unary op a) = on_one (prefix op) (value a)
  value (Binary op a b) = on_two (binary op) (value a) (value b)
  value (Logic op a b) = on_two (λ x y. Some (logical op x y)) (value a) (value b)
  value (Chain a links) = chained (value a) (values links)
  value (Choice c a b) = chosen (value c) (value a) (value b)

  -- the comparisons of a chain with their operands' values
  pub values : Links → Linked
  values (First c x) = with_link (Some []) c (value x)
  values (Then links c x) = with_link (values links) c (value x)
