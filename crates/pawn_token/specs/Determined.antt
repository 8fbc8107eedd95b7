-- A text has at most one token at a place, or one fault, and never both.
use Rattle.std.specs.Prelude.{◌≡◌, ℕ, List, Bool}
use Rattle.pawn_token.specs.declared.kind.TokenKind.{TokenKind}
use Rattle.pawn_token.specs.Forms.{IsToken, IsFault}

-- under one control character and packing, at every place
pub record IsDetermined (control : ℕ) (packed : Bool) : Type 0 where
  pub token : (at : List ℕ) (a b : TokenKind) (rest more : List ℕ)
      → IsToken control packed at a rest
      → IsToken control packed at b more → (a ≡ b) × (rest ≡ more)
  pub fault : (at : List ℕ) (a b : ℕ) → IsFault control packed at a → IsFault control packed at b
      → a ≡ b
  pub never_both : (at : List ℕ) (kind : TokenKind) (rest : List ℕ) (fault : ℕ)
      → IsToken control packed at kind rest → ¬ IsFault control packed at fault
