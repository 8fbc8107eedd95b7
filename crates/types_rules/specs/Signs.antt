-- The operator of a sign with `=` behind it.
use Rattle.std.specs.Prelude.{Option, None, Some}
use Rattle.pawn_token.specs.declared.sign.Sign.{Sign}
use Rattle.pawn_token.specs.declared.sign.Sign.TheVariants as sign
use Rattle.names_rules.specs.Signs.{Between, Nothing, between_of}

-- the sign without `=`
abbrev pub updates_by : Sign → Option Sign
updates_by sign.MultiplyAssign = Some sign.Star
updates_by sign.DivideAssign = Some sign.Slash
updates_by sign.RemainderAssign = Some sign.Percent
updates_by sign.AddAssign = Some sign.Plus
updates_by sign.SubtractAssign = Some sign.Minus
updates_by sign.ShiftLeftAssign = Some sign.ShiftLeft
updates_by sign.ShiftRightAssign = Some sign.ShiftRight
updates_by sign.ShiftUnsignedAssign = Some sign.ShiftUnsigned
updates_by sign.AndAssign = Some sign.Ampersand
updates_by sign.XorAssign = Some sign.Caret
updates_by sign.OrAssign = Some sign.Bar
updates_by _ = None

-- nothing where no sign is left
abbrev pub operator_without : Option Sign → Between
operator_without None = Nothing
operator_without (Some sign) = between_of sign

-- the operator by which a sign such as `+=` assigns
abbrev pub updater_of : Sign → Between
updater_of sign = operator_without (updates_by sign)
