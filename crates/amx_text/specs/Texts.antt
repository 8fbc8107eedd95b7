-- Texts as lines: what a text begins with, a text that is lines from the header to the end, and the
-- first line that has no form.
use Rattle.std.specs.Prelude.{◌≡◌, ◌+◌, ◌++◌, ◌&&◌, ℕ, List, [], ◌∷◌, Bool, true, Option, None}
use Rattle.std.specs.Prelude.{Some, IsTrue, All, length}
use Rattle.std.specs.List.{flat_map, last_or}
use Rattle.amx_text.specs.Forms.{Line, EndLine, line_text, Fits, may_follow}

-- each of some lines may follow the one before it
abbrev pub are_in_order : Option Line → List Line → Bool
are_in_order before [] = true
are_in_order before (line ∷ lines) = may_follow before line && are_in_order (Some line) lines

-- the last of some lines, if there is one
abbrev pub last_of : List Line → Option Line
last_of lines = last_or None lines

-- a text begins with these lines, each of a form that may follow the line before it, and has this
-- behind them
pub record BeginsWith (text : List ℕ) (lines : List Line) (rest : List ℕ) : Type 0 where
  pub fit : All Fits lines
  pub order : IsTrue (are_in_order None lines)
  pub is : text ≡ flat_map line_text lines ++ rest

-- a text is these lines, from the header to the end
pub record AreLines (text : List ℕ) (lines : List Line) : Type 0 where
  pub whole : BeginsWith text lines []
  pub ends : last_of lines ≡ Some EndLine

-- bytes begin with a line of a form that may follow the line before them
pub record HasLine (before : Option Line) (rest : List ℕ) : Type 0 where
  pub line : Line
  pub others : List ℕ
  pub fits : Fits line
  pub follows : IsTrue (may_follow before line)
  pub is : rest ≡ line_text line ++ others

-- this is the number of the first line, from 1, that has no form which may follow the line before
-- it; a line that is missing is the one behind the last
pub record BreaksAt (text : List ℕ) (number : ℕ) : Type 0 where
  pub lines : List Line
  pub rest : List ℕ
  pub begins : BeginsWith text lines rest
  -- no line with such a form stands behind them
  pub stops : ¬ HasLine (last_of lines) rest
  -- and they aren't the whole text up to its end
  pub unended : ¬ AreLines text lines
  pub is : number ≡ length lines + 1
