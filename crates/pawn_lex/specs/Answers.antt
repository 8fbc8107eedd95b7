-- What the readers of a line and of all lines answer. Want of memory is free.
use Rattle.std.specs.Prelude.{◌≡◌, ◌++◌, ℕ, List, Result, Ok, Err}
use Rattle.pawn_cells.specs.declared.place.Place.{Place}
use Rattle.pawn_pre.specs.declared.line.Line.{Line}
use Rattle.pawn_lex.specs.declared.fault.LexFault.{LexFault}
use Rattle.pawn_lex.specs.declared.fault.LexFault.TheVariants as lex
use Rattle.pawn_token.specs.declared.fault.TokenFault.{TokenFault}
use Rattle.pawn_token.specs.declared.fault.TokenFault.TheVariants as bad
use Rattle.pawn_lex.specs.declared.token.Token.{Token}
use Rattle.pawn_lex.specs.declared.token.Tokens.{Tokens}
use Rattle.pawn_lex.specs.Lines.{IsTokenised, IsFaulty, AreTokens, IsFirstFault}

-- the tokens of a line behind those that were there, or its first fault
abbrev pub IsLineRead : Line → List Token → List Token → Result (Unit {0}) TokenFault → Type 0
IsLineRead line old new (Ok done) =
    (here : List Token) × (new ≡ old ++ here) × IsTokenised line here
IsLineRead line old new (Err (bad.Source fault)) = IsFaulty line fault
IsLineRead line old new (Err bad.Memory) = Unit {0}

-- the tokens of lines, or the first fault
abbrev pub IsAnswer : List Line → Result Tokens LexFault → Type 0
IsAnswer lines (Ok tokens) = AreTokens lines tokens.list
IsAnswer lines (Err (lex.Source fault place)) = IsFirstFault lines fault place
IsAnswer lines (Err lex.Memory) = Unit {0}

-- these tokens and no others
abbrev pub AnswersTokens : List Token → Result Tokens LexFault → Type 0
AnswersTokens list (Ok tokens) = tokens.list ≡ list
AnswersTokens list (Err (lex.Source fault place)) = ⊥
AnswersTokens list (Err lex.Memory) = Unit {0}

-- this fault and no other
abbrev pub AnswersFault : ℕ → Place → Result Tokens LexFault → Type 0
AnswersFault fault place (Ok tokens) = ⊥
AnswersFault fault place (Err (lex.Source other there)) = (other ≡ fault) × (there ≡ place)
AnswersFault fault place (Err lex.Memory) = Unit {0}

-- lines have at most one list of tokens, at most one first fault, and never both
pub record AreDetermined (lines : List Line) : Type 0 where
  pub tokens : (a b : List Token) → AreTokens lines a → AreTokens lines b → a ≡ b
  pub faults : (a b : ℕ) (p q : Place) → IsFirstFault lines a p → IsFirstFault lines b q
      → (a ≡ b) × (p ≡ q)
  pub never_both : (list : List Token) (fault : ℕ) (place : Place) → AreTokens lines list
      → ¬ IsFirstFault lines fault place
