-- How far the statements of a block go.
use Rattle.std.specs.Prelude.{ℕ, Bool, not, List}
use Rattle.pawn_token.specs.declared.sign.Sign.TheVariants as sign
use Rattle.pawn_lex.specs.declared.token.Token.{Token}
use Rattle.tree_rules.specs.Tokens.{sees}

-- whether a block goes on at a token: its closing brace doesn't stand there
unfoldable pub goes_on : List Token → ℕ → Bool
goes_on ts = λ j. not (sees ts sign.CloseBrace j)
