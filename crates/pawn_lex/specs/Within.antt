-- How many tokens lines have, how large their names are, and where they stand.
use Rattle.std.specs.Prelude.{◌≡◌, ◌≤◌, ◌⊎◌, ℕ, List, [], ◌∷◌, length, sum_by, All, Result, Ok, Err}
use Rattle.pawn_cells.specs.declared.place.Place.{Place}
use Rattle.pawn_pre.specs.declared.line.Line.{Line}
use Rattle.pawn_pre.specs.Bounds.{bytes_of}
use Rattle.pawn_token.specs.Sizes.{IsNameOrOther, name_size}
use Rattle.pawn_lex.specs.declared.fault.LexFault.{LexFault}
use Rattle.pawn_lex.specs.declared.fault.LexFault.TheVariants as lex
use Rattle.pawn_lex.specs.declared.token.Token.{Token}
use Rattle.pawn_lex.specs.declared.token.Tokens.{Tokens}

-- the place of one of the lines
abbrev pub IsPlaceOf : List Line → Place → Type 0
IsPlaceOf [] place = ⊥
IsPlaceOf (line ∷ lines) place = (place ≡ line.place) ⊎ IsPlaceOf lines place

-- the bytes of all names together
abbrev pub names_size : List Token → ℕ
names_size tokens = sum_by (λ (token : Token). name_size token.kind) tokens

-- lines have no more tokens than bytes, and no more bytes of names; each name has 1 to 31 bytes,
-- none of them zero; and each token stands on one of the lines
pub record AreWithin (lines : List Line) (tokens : List Token) : Type 0 where
  pub few : length tokens ≤ bytes_of lines
  pub small : names_size tokens ≤ bytes_of lines
  pub named : All (λ (token : Token). IsNameOrOther token.kind) tokens
  pub placed : All (λ (token : Token). IsPlaceOf lines token.place) tokens

-- the same of an answer: a fault stands on one of the lines too
abbrev pub IsWithin : List Line → Result Tokens LexFault → Type 0
IsWithin lines (Ok tokens) = AreWithin lines tokens.list
IsWithin lines (Err (lex.Source fault place)) = IsPlaceOf lines place
IsWithin lines (Err lex.Memory) = Unit {0}
