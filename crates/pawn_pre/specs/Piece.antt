-- What a definition's tail and text are made of: bytes and parameters (Language Guide,
-- "Preprocessor", on `#define`).
use Rattle.std.specs.Prelude.{ℕ, ◌==◌, Option, Some, None, List, [], ◌∷◌, Bool}
use Rattle.std.specs.Prelude.{if◌then◌else◌, ◌&&◌}
use Rattle.pawn_pre.specs.declared.quote.Quote.{Quote}
use Rattle.pawn_pre.specs.declared.quote.Quote.TheVariants.{Outside}
use Rattle.pawn_pre.specs.declared.piece.Piece.{Piece}
use Rattle.pawn_pre.specs.declared.piece.Piece.TheVariants.{Byte, Param}
use Rattle.pawn_token.specs.declared.class.Class.TheVariants as class
use Rattle.pawn_token.specs.Class.{is_in}
use Rattle.pawn_pre.specs.Quote.{is_outside, quote_after}

-- literals are told apart by a control character, or not at all
abbrev pub next_quote : Option ℕ → Quote → ℕ → Quote
next_quote None quote b = Outside
next_quote (Some control) quote b = quote_after control quote b

-- `%` and a digit, outside literals
abbrev pub is_parameter : Quote → ℕ → ℕ → Bool
is_parameter quote b d = is_outside quote && ((b == 37) && is_in class.Digit d)

-- the parameter that a byte begins, by the bytes behind it
abbrev pub param_at : Quote → ℕ → List ℕ → Option ℕ
param_at quote b [] = None
param_at quote b (d ∷ rest) = if is_parameter quote b d then Some d else None

-- bytes as pieces
unfoldable pub pieces : Option ℕ → Quote → List ℕ → List Piece
pieces control quote [] = []
pieces control quote (b ∷ []) = Byte b ∷ []
pieces control quote (b ∷ d ∷ rest) =
    if is_parameter quote b d then Param d ∷ pieces control quote rest
    else Byte b ∷ pieces control (next_quote control quote b) (d ∷ rest)

-- the byte that a piece is
abbrev pub byte_of : Piece → Option ℕ
byte_of (Byte b) = Some b
byte_of (Param n) = None

-- the byte that stands in front
abbrev pub follower : List Piece → Option ℕ
follower [] = None
follower (piece ∷ rest) = byte_of piece
