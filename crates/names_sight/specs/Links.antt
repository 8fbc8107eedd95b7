-- The sign of a link, as code holds it.
use Rattle.pawn_token.specs.declared.sign.Sign.{Sign}
use Rattle.pawn_tree.specs.declared.expression.Link.{Link, Compare}

-- the sign between the operand to the left and its own
abbrev pub link_sign : Link → Sign
link_sign (Compare sign x) = sign
