-- How many bytes of lines their tokens take.
use Rattle.std.specs.Prelude.{◌≤◌, ℕ, List, length, sum_by}
use Rattle.pawn_pre.specs.declared.line.Line.{Line}
use Rattle.pawn_pre.specs.Bounds.{bytes_of}
use Rattle.pawn_token.specs.declared.kind.TokenKind.{TokenKind}
use Rattle.pawn_token.specs.declared.kind.TokenKind.TheVariants as kind
use Rattle.pawn_token.specs.Keys.{key_spelling}
use Rattle.pawn_token.specs.Signs.{sign_spelling}
use Rattle.pawn_lex.specs.declared.token.Token.{Token}
use Rattle.pawn_lex.specs.Lines.{AreTokens}

-- the bytes of a name, a key word or a sign
abbrev pub token_size : TokenKind → ℕ
token_size (kind.Name bytes) = length bytes
token_size (kind.Key key) = length (key_spelling key)
token_size (kind.Number number) = 0
token_size (kind.Text bytes packed) = 0
token_size (kind.Sign sign) = length (sign_spelling sign)

-- together they are no more than the bytes of the lines
abbrev pub TokensAreWithinBytes : Type 0
TokensAreWithinBytes =
    (lines : List Line) (ts : List Token) → AreTokens lines ts
    → sum_by (λ (token : Token). token_size token.kind) ts ≤ bytes_of lines
