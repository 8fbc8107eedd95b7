-- Where a piece stands in memory.
use Rattle.std.specs.Prelude.{◌≡◌, ◌≢◌, ◌+◌, ◌⊎◌, ℕ, List, ◌∷◌, ◌++◌}
use Rattle.pawn_meaning.specs.Memory.{Name, Static, Local, Temporary}
use Rattle.gen_sim.specs.Pieces.{Piece, Fixed, Thing, Automaton, Each, total}

-- two names mean two objects
abbrev pub Differ : Name → Name → Type 0
Differ (Static a) (Static b) = a ≢ b
Differ (Static a) (Local k s) = Unit {0}
Differ (Static a) (Temporary n) = Unit {0}
Differ (Local k s) (Static b) = Unit {0}
Differ (Local k s) (Local j t) = (k ≢ j) ⊎ (s ≢ t)
Differ (Local k s) (Temporary n) = Unit {0}
Differ (Temporary n) (Static b) = Unit {0}
Differ (Temporary n) (Local k s) = Unit {0}
Differ (Temporary n) (Temporary i) = n ≢ i

-- two pieces stand for two things of the world
abbrev pub Apart : Piece → Piece → Type 0
Apart (Fixed cells) other = Unit {0}
Apart (Thing name sizes) (Fixed cells) = Unit {0}
Apart (Thing name sizes) (Thing other inner) = Differ name other
Apart (Thing name sizes) (Automaton b) = Unit {0}
Apart (Automaton a) (Fixed cells) = Unit {0}
Apart (Automaton a) (Thing other inner) = Unit {0}
Apart (Automaton a) (Automaton b) = a ≢ b

-- a piece stands in a row of pieces, so many cells behind its beginning, and what it stands for is
-- nowhere else in it
pub record StandsIn (piece : Piece) (pieces : List Piece) (first : ℕ) : Type 0 where
  pub before : List Piece
  pub after : List Piece
  pub split : pieces ≡ before ++ piece ∷ after
  pub first_is : first ≡ total before
  pub not_before : Each (Apart piece) before
  pub not_after : Each (Apart piece) after

-- of N cells the low pieces are the first ones and the high pieces the last ones. Among the low
-- pieces a place is counted from the first cell
pub record InLow (N : ℕ) (low high : List Piece) (piece : Piece) (first : ℕ) : Type 0 where
  pub stands : StandsIn piece low first
  pub apart : Each (Apart piece) high

-- and among the high ones from the top
pub record InHigh (N : ℕ) (low high : List Piece) (piece : Piece) (first : ℕ) : Type 0 where
  pub behind : ℕ
  pub stands : StandsIn piece high behind
  pub apart : Each (Apart piece) low
  pub place : first + total high ≡ N + behind

-- a piece has its first cell there, whatever lies between low and high
pub record Placed (N : ℕ) (low high : List Piece) (piece : Piece) (first : ℕ) : Type 0 where
  pub where_it_is : InLow N low high piece first ⊎ InHigh N low high piece first
