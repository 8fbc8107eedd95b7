-- Tokens of whole lines: the bytes of the lines are the spellings of the tokens with blanks between
-- them.
use Rattle.std.specs.Prelude.{◌≡◌, ◌⊎◌, ℕ, List, [], ◌∷◌, ◌++◌, Bool, true, false, not, ◌&&◌}
use Rattle.std.specs.Prelude.{length, ◌==◌}
use Rattle.pawn_cells.specs.declared.place.Place.{Place}
use Rattle.pawn_pre.specs.declared.line.Line.{Line}
use Rattle.pawn_lex.specs.declared.token.Token.{Token}
use Rattle.pawn_token.specs.declared.kind.TokenKind.{TokenKind}
use Rattle.pawn_token.specs.Forms.{IsToken, IsFault}
use Rattle.pawn_token.specs.Kinds.{blanks, past_blanks}

-- the token behind the blanks at a place of a line, and what follows it
pub record IsNext (line : Line) (first : Bool) (at : List ℕ) (token : Token)
    (rest : List ℕ) : Type 0 where
  pub kind : TokenKind
  pub here : IsToken line.ctrl line.packed (past_blanks at) kind rest
  pub token_is : token ≡ record {
    kind = kind;
    place = line.place;
    first = first;
    touches = not first && (length (blanks at) == 0);
    strict = line.strict;
  }

-- from a place of a line on these tokens stand up to another place
abbrev pub Leads : Line → Bool → List ℕ → List Token → List ℕ → Type 0
Leads line first at [] end = at ≡ end
Leads line first at (token ∷ tokens) end =
    (rest : List ℕ) × IsNext line first at token rest × Leads line false rest tokens end

-- a whole line: the tokens, and blanks behind them
pub record IsTokenised (line : Line) (tokens : List Token) : Type 0 where
  pub end : List ℕ
  pub leads : Leads line true line.bytes tokens end
  pub blank : past_blanks end ≡ []

-- tokens up to the first fault of a line
pub record IsFaulty (line : Line) (fault : ℕ) : Type 0 where
  pub tokens : List Token
  pub end : List ℕ
  pub leads : Leads line true line.bytes tokens end
  pub here : IsFault line.ctrl line.packed (past_blanks end) fault

-- the tokens of lines, one line behind another
abbrev pub AreTokens : List Line → List Token → Type 0
AreTokens [] tokens = tokens ≡ []
AreTokens (line ∷ lines) tokens =
    (here : List Token) × (more : List Token) × (tokens ≡ here ++ more)
    × IsTokenised line here × AreTokens lines more

-- the first line with a fault, its fault and its place: the lines before it have tokens
abbrev pub IsFirstFault : List Line → ℕ → Place → Type 0
IsFirstFault [] fault place = ⊥
IsFirstFault (line ∷ lines) fault place =
    (IsFaulty line fault × (place ≡ line.place))
    ⊎ ((here : List Token) × IsTokenised line here × IsFirstFault lines fault place)
