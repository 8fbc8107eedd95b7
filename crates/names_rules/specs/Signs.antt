-- Which operators on cells a sign stands for in a constant, and which operator a program may define
-- for it (Language Guide, "Operators and expressions", "User-defined operators").
use Rattle.std.specs.Prelude.{Option, Some, None, Bool, true, false}
use Rattle.pawn_token.specs.declared.sign.Sign.{Sign}
use Rattle.pawn_token.specs.declared.sign.Sign.TheVariants as sign
use Rattle.pawn_cells.specs.declared.operator.Prefix.{Prefix}
use Rattle.pawn_cells.specs.declared.operator.Prefix.TheVariants as before
use Rattle.pawn_cells.specs.declared.operator.Operator.{Operator}
use Rattle.pawn_cells.specs.declared.operator.Operator.TheVariants as between
use Rattle.pawn_cells.specs.declared.operator.Comparison.{Comparison}
use Rattle.pawn_cells.specs.declared.operator.Comparison.TheVariants as comparison
use Rattle.pawn_cells.specs.declared.operator.Logical.{Logical}
use Rattle.pawn_cells.specs.declared.operator.Logical.TheVariants as logic
use Rattle.pawn_tags.specs.declared.op.Op.{Op}
use Rattle.pawn_tags.specs.declared.op.Op.TheVariants as op

-- ---- before an operand

-- a sign before an operand: an operator, or one that changes its operand
pub data Before : Type 0 where
  -- an operator, and the one that a program may define
  Applies : Prefix → Option Op → Before
  Steps : Before

-- which of these a sign before an operand is
abbrev pub before_of : Sign → Before
before_of sign.Exclamation = Applies before.Not (Some op.Not)
before_of sign.Tilde = Applies before.Invert None
before_of sign.Minus = Applies before.Negate (Some op.Neg)
before_of _ = Steps

-- ---- between two operands

-- a sign between operands: an operator on cells, `&&` or `||`, `,`, or none
pub data Between : Type 0 where
  -- an operator, and the one that a program may define
  Operates : Operator → Option Op → Between
  Decides : Logical → Between
  -- `,`
  Takes : Between
  Nothing : Between

-- which of these a sign between operands is
abbrev pub between_of : Sign → Between
between_of sign.Star = Operates between.Multiply (Some op.Mul)
between_of sign.Slash = Operates between.Divide (Some op.Div)
between_of sign.Percent = Operates between.Remainder (Some op.Rem)
between_of sign.Plus = Operates between.Add (Some op.Add)
between_of sign.Minus = Operates between.Subtract (Some op.Sub)
between_of sign.ShiftLeft = Operates between.ShiftLeft None
between_of sign.ShiftRight = Operates between.ShiftRight None
between_of sign.ShiftUnsigned = Operates between.ShiftUnsigned None
between_of sign.Ampersand = Operates between.And None
between_of sign.Caret = Operates between.Xor None
between_of sign.Bar = Operates between.Or None
between_of sign.Equal = Operates between.Equal (Some op.Eq)
between_of sign.NotEqual = Operates between.NotEqual (Some op.Neq)
between_of sign.LogicalAnd = Decides logic.And
between_of sign.LogicalOr = Decides logic.Or
between_of sign.Comma = Takes
between_of _ = Nothing

-- the operator tells whether its operands are equal
abbrev pub is_test : Operator → Bool
is_test between.Equal = true
is_test between.NotEqual = true
is_test _ = false

-- ---- in a chain

-- a sign in a chain: a comparison with the operator that a program may define, or none
pub data Link : Type 0 where
  Compares : Comparison → Op → Link
  No_link : Link

-- which comparison a sign is
abbrev pub link_of : Sign → Link
link_of sign.Less = Compares comparison.Less op.Less
link_of sign.LessEqual = Compares comparison.LessEqual op.LessEq
link_of sign.Greater = Compares comparison.Greater op.Greater
link_of sign.GreaterEqual = Compares comparison.GreaterEqual op.GreaterEq
link_of _ = No_link
