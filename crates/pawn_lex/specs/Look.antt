-- A look at tokens by their number, counted from 0.
use Rattle.std.specs.Prelude.{◌≡◌, ℕ, List, [], ◌∷◌, Bool, false, Option, Some, None, slice_get}
use Rattle.std.specs.Prelude.{if◌then◌else◌}
use Rattle.std.specs.Str.{bytes_eq}
use Rattle.pawn_token.specs.declared.key.Key.{Key}
use Rattle.pawn_token.specs.declared.kind.TokenKind.{TokenKind}
use Rattle.pawn_token.specs.declared.kind.TokenKind.TheVariants as kind
use Rattle.pawn_token.specs.declared.sign.Sign.{Sign}
use Rattle.pawn_lex.specs.declared.token.Token.{Token}

-- what a token is, if there is one
abbrev pub kind_by : Option Token → Option TokenKind
kind_by None = None
kind_by (Some token) = Some token.kind

-- what the token with a number is, and none behind the end
abbrev pub kind_at : List Token → ℕ → Option TokenKind
kind_at tokens at = kind_by (slice_get tokens at)

-- a flag of a token, which none has behind the end
abbrev pub flag_by : (Token → Bool) → Option Token → Bool
flag_by flag None = false
flag_by flag (Some token) = flag token

-- it is the first on its line
abbrev pub is_first : List Token → ℕ → Bool
is_first tokens at = flag_by (λ (token : Token). token.first) (slice_get tokens at)

-- it stands directly behind the one before it
abbrev pub touches : List Token → ℕ → Bool
touches tokens at = flag_by (λ (token : Token). token.touches) (slice_get tokens at)

-- statements need their semicolons there
abbrev pub is_strict : List Token → ℕ → Bool
is_strict tokens at = flag_by (λ (token : Token). token.strict) (slice_get tokens at)

-- it is this sign
abbrev pub SeesSign : List Token → ℕ → Sign → Type 0
SeesSign tokens at sign = kind_at tokens at ≡ Some (kind.Sign sign)

-- it is this key word
abbrev pub SeesKey : List Token → ℕ → Key → Type 0
SeesKey tokens at key = kind_at tokens at ≡ Some (kind.Key key)

-- a name other than `_`, by a token's kind
abbrev pub name_by : Option TokenKind → Option (List ℕ)
name_by None = None
name_by (Some (kind.Name name)) = if bytes_eq name (95 ∷ []) then None else Some name
name_by (Some (kind.Key key)) = None
name_by (Some (kind.Number number)) = None
name_by (Some (kind.Text bytes packed)) = None
name_by (Some (kind.Sign sign)) = None

-- the name that the token is, unless it is `_`
abbrev pub name_at : List Token → ℕ → Option (List ℕ)
name_at tokens at = name_by (kind_at tokens at)
