-- The value of a condition: the text spells an expression with that value (Language Guide,
-- "Directives", on `#if`).
use Rattle.std.specs.Prelude.{◌≡◌, ℕ, ℤ, false, Option, Some, None, MatchOption, List, map}
use Rattle.pawn_cells.specs.declared.constant.Constant.{Constant}
use Rattle.pawn_cells.specs.Constants.{predefined}
use Rattle.pawn_token.specs.declared.kind.TokenKind.{TokenKind}
use Rattle.pawn_token.specs.declared.kind.TokenKind.TheVariants as kind
use Rattle.pawn_token.specs.Kinds.{AreKinds}
use Rattle.pawn_pre.specs.Expression.{Expr, spell, Fits, value}

-- a name as the number that it stands for, if it is a predefined constant
abbrev pub constant_or_name : List ℕ → Option Constant → TokenKind
constant_or_name name None = kind.Name name
constant_or_name name (Some constant) = kind.Number constant.value

-- a token, with the value in the place of a predefined constant
abbrev pub resolved : TokenKind → TokenKind
resolved (kind.Name name) = constant_or_name name (predefined name)
resolved (kind.Key key) = kind.Key key
resolved (kind.Number v) = kind.Number v
resolved (kind.Text bytes packed) = kind.Text bytes packed
resolved (kind.Sign sign) = kind.Sign sign

-- under a control character a text has this value
pub record HasValue (control : ℕ) (text : List ℕ) (v : ℤ) : Type 0 where
  pub kinds : List TokenKind
  pub tokenised : AreKinds control false text kinds
  pub tree : Expr
  pub fits : Fits 13 tree
  pub spelled : spell tree ≡ map resolved kinds
  pub value_is : value tree ≡ Some v

-- a function gives each text its value, and nothing where it has none
abbrev pub IsValue : (ℕ → List ℕ → Option ℤ) → Type 0
IsValue value_of = (control : ℕ) (text : List ℕ) →
    MatchOption (value_of control text) ((v : ℤ) → ¬ (HasValue control text v))
    (λ v. HasValue control text v)
