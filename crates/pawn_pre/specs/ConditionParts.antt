-- The tokens of a condition as it is evaluated: a token at a time, and how many bytes it takes. No
-- promise rests on this.
use Rattle.std.specs.Prelude.{ℕ, zero, suc, ◌-◌, Option, Some, None, List, [], ◌∷◌, ◌++◌, length}
use Rattle.std.specs.Prelude.{if◌then◌else◌}
use Rattle.pawn_cells.specs.declared.constant.Constant.{Constant}
use Rattle.pawn_cells.specs.declared.operator.Comparison.TheVariants as comparison
use Rattle.pawn_cells.specs.declared.operator.Logical.TheVariants as logic
use Rattle.pawn_cells.specs.declared.operator.Operator.{Operator}
use Rattle.pawn_cells.specs.declared.operator.Operator.TheVariants as between
use Rattle.pawn_cells.specs.Constants.{predefined}
use Rattle.pawn_token.specs.declared.class.Class.TheVariants as class
use Rattle.pawn_token.specs.declared.kind.TokenKind.{TokenKind}
use Rattle.pawn_token.specs.declared.kind.TokenKind.TheVariants as kind
use Rattle.pawn_token.specs.declared.sign.Sign.{Sign}
use Rattle.pawn_token.specs.declared.sign.Sign.TheVariants as sign
use Rattle.pawn_token.specs.Class.{is_in}
use Rattle.pawn_token.specs.Plain.{Found, plain_at}
use Rattle.pawn_pre.specs.declared.part.Infix.TheVariants.{Cells, Compare, Logic}
use Rattle.pawn_pre.specs.declared.part.Part.{Part}
use Rattle.pawn_pre.specs.declared.part.Part.TheVariants as part
use Rattle.pawn_pre.specs.declared.condition_parts.Step.{Step}

-- the operator on cells that a sign is
unfoldable pub operator_of : Sign → Option Operator
operator_of sign.ShiftUnsignedAssign = None
operator_of sign.ShiftUnsigned = Some between.ShiftUnsigned
operator_of sign.ShiftRightAssign = None
operator_of sign.ShiftLeftAssign = None
operator_of sign.Ellipsis = None
operator_of sign.ShiftRight = Some between.ShiftRight
operator_of sign.ShiftLeft = Some between.ShiftLeft
operator_of sign.GreaterEqual = None
operator_of sign.LessEqual = None
operator_of sign.Equal = Some between.Equal
operator_of sign.NotEqual = Some between.NotEqual
operator_of sign.LogicalAnd = None
operator_of sign.LogicalOr = None
operator_of sign.AddAssign = None
operator_of sign.SubtractAssign = None
operator_of sign.MultiplyAssign = None
operator_of sign.DivideAssign = None
operator_of sign.RemainderAssign = None
operator_of sign.AndAssign = None
operator_of sign.OrAssign = None
operator_of sign.XorAssign = None
operator_of sign.Increment = None
operator_of sign.Decrement = None
operator_of sign.DotDot = None
operator_of sign.OpenParenthesis = None
operator_of sign.CloseParenthesis = None
operator_of sign.OpenBracket = None
operator_of sign.CloseBracket = None
operator_of sign.OpenBrace = None
operator_of sign.CloseBrace = None
operator_of sign.Semicolon = None
operator_of sign.Comma = None
operator_of sign.Dot = None
operator_of sign.Colon = None
operator_of sign.Question = None
operator_of sign.Assign = None
operator_of sign.Less = None
operator_of sign.Greater = None
operator_of sign.Plus = Some between.Add
operator_of sign.Minus = Some between.Subtract
operator_of sign.Star = Some between.Multiply
operator_of sign.Slash = Some between.Divide
operator_of sign.Percent = Some between.Remainder
operator_of sign.Ampersand = Some between.And
operator_of sign.Bar = Some between.Or
operator_of sign.Caret = Some between.Xor
operator_of sign.Exclamation = None
operator_of sign.Tilde = None

-- what another sign is
unfoldable pub other_of : Sign → Option Part
other_of sign.ShiftUnsignedAssign = None
other_of sign.ShiftUnsigned = None
other_of sign.ShiftRightAssign = None
other_of sign.ShiftLeftAssign = None
other_of sign.Ellipsis = None
other_of sign.ShiftRight = None
other_of sign.ShiftLeft = None
other_of sign.GreaterEqual = Some (part.Two (Compare comparison.GreaterEqual))
other_of sign.LessEqual = Some (part.Two (Compare comparison.LessEqual))
other_of sign.Equal = None
other_of sign.NotEqual = None
other_of sign.LogicalAnd = Some (part.Two (Logic logic.And))
other_of sign.LogicalOr = Some (part.Two (Logic logic.Or))
other_of sign.AddAssign = None
other_of sign.SubtractAssign = None
other_of sign.MultiplyAssign = None
other_of sign.DivideAssign = None
other_of sign.RemainderAssign = None
other_of sign.AndAssign = None
other_of sign.OrAssign = None
other_of sign.XorAssign = None
other_of sign.Increment = None
other_of sign.Decrement = None
other_of sign.DotDot = None
other_of sign.OpenParenthesis = Some part.Open
other_of sign.CloseParenthesis = Some part.Close
other_of sign.OpenBracket = None
other_of sign.CloseBracket = None
other_of sign.OpenBrace = None
other_of sign.CloseBrace = None
other_of sign.Semicolon = None
other_of sign.Comma = None
other_of sign.Dot = None
other_of sign.Colon = Some part.Colon
other_of sign.Question = Some part.Question
other_of sign.Assign = None
other_of sign.Less = Some (part.Two (Compare comparison.Less))
other_of sign.Greater = Some (part.Two (Compare comparison.Greater))
other_of sign.Plus = None
other_of sign.Minus = None
other_of sign.Star = None
other_of sign.Slash = None
other_of sign.Percent = None
other_of sign.Ampersand = None
other_of sign.Bar = None
other_of sign.Caret = None
other_of sign.Exclamation = Some part.Not
other_of sign.Tilde = Some part.Invert

-- what a sign is
abbrev pub operator_or : Option Operator → Option Part → Option Part
operator_or None other = other
operator_or (Some op) other = Some (part.Two (Cells op))

-- the part that a sign is, if it may stand in a condition
abbrev pub sign_part : Sign → Option Part
sign_part s = operator_or (operator_of s) (other_of s)

-- a predefined constant as its value
abbrev pub constant_part : Option Constant → Option Part
constant_part None = None
constant_part (Some constant) = Some (part.Value constant.value)

-- what a token is, if it may stand in a condition
abbrev pub part_of : TokenKind → Option Part
part_of (kind.Name name) = constant_part (predefined name)
part_of (kind.Key key) = None
part_of (kind.Number v) = Some (part.Value v)
part_of (kind.Text bytes packed) = None
part_of (kind.Sign s) = sign_part s

-- a part, and how many of so many bytes it takes
abbrev pub step_with : ℕ → List ℕ → Option Part → Option Step
step_with n rest None = None
step_with n rest (Some p) = Some (record { part = p; size = n - length rest })

-- the part that a token is, and how many bytes it takes
abbrev pub step_by : ℕ → Option Found → Option Step
step_by n None = None
step_by n (Some found) = step_with n found.1 (part_of found.0)

-- the part at a place where no blank stands
abbrev pub step_at : ℕ → List ℕ → Option Step
step_at control at = step_by (length at) (plain_at control at)

-- more parts behind some
unfoldable pub with_parts : List Part → Option (List Part) → Option (List Part)
with_parts front None = None
with_parts front (Some parts) = Some (front ++ parts)

-- a part, and those behind its bytes
abbrev pub step_then : Option Step → (ℕ → Option (List Part)) → Option (List Part)
step_then None go_on = None
step_then (Some s) go_on = with_parts (s.part ∷ []) (go_on (s.size - 1))

-- the parts of bytes of which the first few belong to one that was taken
unfoldable pub parts_from : ℕ → ℕ → List ℕ → Option (List Part)
parts_from control left [] = Some []
parts_from control (suc left) (b ∷ rest) = parts_from control left rest
parts_from control zero (b ∷ rest) =
    if is_in class.Blank b then parts_from control 0 rest
    else step_then (step_at control (b ∷ rest)) (λ left. parts_from control left rest)

-- a part before others
abbrev pub part_then : Option Part → Option (List Part) → Option (List Part)
part_then None parts = None
part_then (Some p) parts = with_parts (p ∷ []) parts

-- the parts of tokens, if each may stand in a condition
unfoldable pub parts_of : List TokenKind → Option (List Part)
parts_of [] = Some []
parts_of (k ∷ kinds) = part_then (part_of k) (parts_of kinds)
