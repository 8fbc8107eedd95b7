-- The operators by levels (Language Guide, "Operator precedence"): 1 postfix, 2 prefix, 3 to 8 and
-- 10 to 12 grouping to the left, 9 the chain of comparisons, 13 `? :`, 14 assignment, 15 the comma.
use Rattle.std.specs.Prelude.{ℕ, Bool, true, false, not, ◌&&◌, if◌then◌else◌, List}
use Rattle.pawn_token.specs.declared.sign.Sign.{Sign}
use Rattle.pawn_token.specs.declared.sign.Sign.TheVariants as sign
use Rattle.pawn_lex.specs.declared.token.Token.{Token}
use Rattle.tree_rules.specs.declared.word.Word.{Word}
use Rattle.tree_rules.specs.declared.word.Word.TheVariants as w
use Rattle.tree_rules.specs.declared.joint.Joint.{Joint}
use Rattle.tree_rules.specs.declared.joint.Joint.TheVariants as joint
use Rattle.tree_rules.specs.Tokens.{word, is_first, sees}

-- how a sign continues an expression
abbrev pub joint_of : Sign → Joint
joint_of sign.Star = joint.Left 3
joint_of sign.Slash = joint.Left 3
joint_of sign.Percent = joint.Left 3
joint_of sign.Plus = joint.Left 4
joint_of sign.Minus = joint.Left 4
joint_of sign.ShiftLeft = joint.Left 5
joint_of sign.ShiftRight = joint.Left 5
joint_of sign.ShiftUnsigned = joint.Left 5
joint_of sign.Ampersand = joint.Left 6
joint_of sign.Caret = joint.Left 7
joint_of sign.Bar = joint.Left 8
joint_of sign.Less = joint.Compare
joint_of sign.LessEqual = joint.Compare
joint_of sign.Greater = joint.Compare
joint_of sign.GreaterEqual = joint.Compare
joint_of sign.Equal = joint.Left 10
joint_of sign.NotEqual = joint.Left 10
joint_of sign.LogicalAnd = joint.Left 11
joint_of sign.LogicalOr = joint.Left 12
joint_of sign.Question = joint.Question
joint_of sign.Assign = joint.Assign
joint_of sign.AddAssign = joint.Assign
joint_of sign.SubtractAssign = joint.Assign
joint_of sign.MultiplyAssign = joint.Assign
joint_of sign.DivideAssign = joint.Assign
joint_of sign.RemainderAssign = joint.Assign
joint_of sign.ShiftLeftAssign = joint.Assign
joint_of sign.ShiftRightAssign = joint.Assign
joint_of sign.ShiftUnsignedAssign = joint.Assign
joint_of sign.AndAssign = joint.Assign
joint_of sign.OrAssign = joint.Assign
joint_of sign.XorAssign = joint.Assign
joint_of sign.Comma = joint.Left 15
joint_of sign.Increment = joint.Step
joint_of sign.Decrement = joint.Step
joint_of sign.OpenBracket = joint.Bracket
joint_of sign.OpenBrace = joint.Brace
joint_of sign.OpenParenthesis = joint.Parenthesis
joint_of sign.Colon = joint.Colon
joint_of _ = joint.Nothing

-- the signs that stand before an operand
abbrev pub is_prefix : Sign → Bool
is_prefix sign.Exclamation = true
is_prefix sign.Tilde = true
is_prefix sign.Minus = true
is_prefix sign.Increment = true
is_prefix sign.Decrement = true
is_prefix _ = false

-- At which level a sign goes on with an expression that ends before it. No expression ends before a
-- sign of level 0, and one of level 16 doesn't go on with it. What stands behind its operand stands
-- on its line.
abbrev pub level_of : Bool → Bool → Joint → ℕ
level_of tags first (joint.Left level) = level
level_of tags first joint.Compare = 9
level_of tags first joint.Question = 13
level_of tags first joint.Assign = 14
level_of tags first joint.Step = if first then 16 else 1
level_of tags first joint.Bracket = if first then 0 else 1
level_of tags first joint.Brace = if first then 16 else 1
level_of tags first joint.Parenthesis = if first then 16 else 0
level_of tags first joint.Colon = if tags then 0 else 16
level_of tags first joint.Nothing = 16

-- how a token continues an expression
abbrev pub joint_at : Word → Joint
joint_at (w.Sign c) = joint_of c
joint_at _ = joint.Nothing

-- the level at which token i goes on with an expression
unfoldable pub binds : List Token → Bool → ℕ → ℕ
binds ts tags i = level_of tags (is_first ts i) (joint_at (word ts i))

-- a comparison
abbrev pub is_compare : Joint → Bool
is_compare joint.Compare = true
is_compare _ = false

-- whether a comparison stands there
unfoldable pub compares : List Token → ℕ → Bool
compares ts i = is_compare (joint_at (word ts i))

-- whether the arguments of a call begin there
unfoldable pub calls : List Token → ℕ → Bool
calls ts i = sees ts sign.OpenParenthesis i && not (is_first ts i)
