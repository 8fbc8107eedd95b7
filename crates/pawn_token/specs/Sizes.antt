-- How large a token is, and which bytes a name has.
use Rattle.std.specs.Prelude.{◌<◌, ◌≤◌, ℕ, List, length, All}
use Rattle.pawn_token.specs.declared.kind.TokenKind.{TokenKind}
use Rattle.pawn_token.specs.declared.kind.TokenKind.TheVariants as kind

-- a name has 1 to 31 bytes, and none is zero
pub record IsName (name : List ℕ) : Type 0 where
  pub some : 1 ≤ length name
  pub short : length name ≤ 31
  pub nonzero : All (λ byte. 0 < byte) name

-- the same of a token that is a name
abbrev pub IsNameOrOther : TokenKind → Type 0
IsNameOrOther (kind.Name name) = IsName name
IsNameOrOther (kind.Key key) = Unit {0}
IsNameOrOther (kind.Number number) = Unit {0}
IsNameOrOther (kind.Text bytes packed) = Unit {0}
IsNameOrOther (kind.Sign sign) = Unit {0}

-- the bytes of a name, and none of another token
abbrev pub name_size : TokenKind → ℕ
name_size (kind.Name name) = length name
name_size (kind.Key key) = 0
name_size (kind.Number number) = 0
name_size (kind.Text bytes packed) = 0
name_size (kind.Sign sign) = 0
