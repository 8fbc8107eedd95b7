-- How the tail of a definition matches what stands behind its key (Language Guide, "Preprocessor",
-- on text substitution).
use Rattle.std.specs.Prelude.{ℕ, ◌==◌, Option, Some, None, List, [], ◌∷◌, ◌++◌, take, drop}
use Rattle.std.specs.Prelude.{if◌then◌else◌}
use Rattle.pawn_pre.specs.declared.piece.Piece.{Piece}
use Rattle.pawn_pre.specs.declared.piece.Piece.TheVariants.{Byte, Param}
use Rattle.pawn_pre.specs.declared.matching.Given.{Given}
use Rattle.pawn_pre.specs.Blanks.{past_blanks, trimmed}
use Rattle.pawn_pre.specs.Group.{reach_to}
use Rattle.pawn_pre.specs.Piece.{follower}

-- what the parameters took, and the bytes behind the match
pub record Match : Type 0 where
  pub given : List Given
  pub rest : List ℕ

-- what earlier parameters took, and a match behind them
unfoldable pub with_given : List Given → Option Match → Option Match
with_given front None = None
with_given front (Some m) = Some (record { given = front ++ m.given; rest = m.rest })

-- the byte in front, and what follows it
abbrev pub byte_then : ℕ → List ℕ → (List ℕ → Option Match) → Option Match
byte_then n [] go_on = None
byte_then n (b ∷ rest) go_on = if b == n then go_on rest else None

-- a parameter takes so many bytes, without the blanks at their ends
abbrev pub param_then : ℕ → List ℕ → Option ℕ → (List ℕ → Option Match) → Option Match
param_then n bytes None go_on = None
param_then n bytes (Some taken) go_on =
    with_given ((record { number = n; bytes = trimmed (take taken bytes) }) ∷ [])
    (go_on (drop taken bytes))

-- a byte matches itself behind any blanks
unfoldable pub matched : ℕ → List Piece → List ℕ → Option Match
matched control [] bytes = Some (record { given = []; rest = bytes })
matched control (Byte n ∷ tail) bytes =
    byte_then n (past_blanks bytes) (λ rest. matched control tail rest)
matched control (Param n ∷ tail) bytes =
    param_then n bytes (reach_to control (follower tail) bytes) (λ rest. matched control tail rest)
