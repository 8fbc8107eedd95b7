-- The tokens of a whole text, with blanks between them.
use Rattle.std.specs.Prelude.{◌≡◌, ℕ, List, [], ◌∷◌, Bool}
use Rattle.pawn_token.specs.declared.class.Class.TheVariants as class
use Rattle.pawn_token.specs.declared.kind.TokenKind.{TokenKind}
use Rattle.pawn_token.specs.Class.{run, after}
use Rattle.pawn_token.specs.Forms.{IsToken}

-- the blanks at a place
abbrev pub blanks : List ℕ → List ℕ
blanks at = run class.Blank at

-- what follows them
abbrev pub past_blanks : List ℕ → List ℕ
past_blanks at = after class.Blank at

-- from a place to the end these tokens stand, each behind its blanks
abbrev pub AreKinds : ℕ → Bool → List ℕ → List TokenKind → Type 0
AreKinds control packed at [] = past_blanks at ≡ []
AreKinds control packed at (kind ∷ kinds) =
    (rest : List ℕ) × IsToken control packed (past_blanks at) kind rest
    × AreKinds control packed rest kinds
