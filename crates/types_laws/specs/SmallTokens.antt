-- What the tokens of lines hold is small, where lines are of bytes and not too long.
use Rattle.std.specs.Prelude.{◌<◌, ◌^◌, List, All}
use Rattle.pawn_pre.specs.declared.line.Line.{Line}
use Rattle.pawn_pre.specs.Bounds.{bytes_of}
use Rattle.pawn_lex.specs.declared.token.Token.{Token}
use Rattle.pawn_lex.specs.Lines.{AreTokens}
use Rattle.types_laws.specs.WrittenTrees.{AreSmallTokens}

-- the numbers that lines are of are bytes
abbrev pub AreByteLines : List Line → Type 0
AreByteLines lines = All (λ (line : Line). All (λ byte. byte < 256) line.bytes) lines

-- then what their tokens hold is small
abbrev pub TokensAreSmall : Type 0
TokensAreSmall =
    (lines : List Line) (ts : List Token) → AreByteLines lines → bytes_of lines < 2 ^ 30
    → AreTokens lines ts → AreSmallTokens ts
