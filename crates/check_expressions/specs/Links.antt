-- The parts of a link of a chain.
use Rattle.pawn_token.specs.declared.sign.Sign.{Sign}
use Rattle.pawn_tree.specs.Expressions.{Compare, Expr, Link}

-- its sign
abbrev pub sign_in : Link → Sign
sign_in (Compare sign e) = sign

-- and its operand
abbrev pub operand_in : Link → Expr
operand_in (Compare sign e) = e
