-- How many brackets are open. Each `(`, `[` and `{` adds one, and each `)`, `]` and `}` takes one
-- away where the count isn't 0.
use Rattle.std.specs.Prelude.{ℕ, suc, ◌-◌, ◌<◌, ◌≤◌, List, [], ◌∷◌, length, take}
use Rattle.pawn_token.specs.declared.kind.TokenKind.{TokenKind}
use Rattle.pawn_token.specs.declared.kind.TokenKind.TheVariants as kind
use Rattle.pawn_token.specs.declared.sign.Sign.TheVariants as sign
use Rattle.pawn_lex.specs.declared.token.Token.{Token}

-- those that are open at a token, from those before it
abbrev pub open_by : ℕ → TokenKind → ℕ
open_by n (kind.Sign sign.OpenParenthesis) = suc n
open_by n (kind.Sign sign.OpenBracket) = suc n
open_by n (kind.Sign sign.OpenBrace) = suc n
open_by n (kind.Sign sign.CloseParenthesis) = n - 1
open_by n (kind.Sign sign.CloseBracket) = n - 1
open_by n (kind.Sign sign.CloseBrace) = n - 1
open_by n _ = n

-- so many are open behind some tokens, where n were open before them
abbrev pub open_from : ℕ → List Token → ℕ
open_from n [] = n
open_from n (token ∷ more) = open_from (open_by n token.kind) more

-- the brackets open at token i, counted from the first token up to it
abbrev pub open_at : List Token → ℕ → ℕ
open_at ts i = open_from 0 (take (suc i) ts)

-- no token has more than 256 open
abbrev pub IsShallow : List Token → Type 0
IsShallow ts = (i : ℕ) → i < length ts → open_at ts i ≤ 256

-- token n is the first that has more
pub record IsTooDeep (ts : List Token) (n : ℕ) : Type 0 where
  pub inside : n < length ts
  pub deep : 256 < open_at ts n
  pub first : (i : ℕ) → i < n → open_at ts i ≤ 256
