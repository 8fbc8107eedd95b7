-- What holds of all lines, whatever the files tell.
use Rattle.std.specs.Prelude.{◌<◌, ◌≤◌, ℕ, List, length, sum_by, All}
use Rattle.pawn_pre.specs.declared.line.Line.{Line}
use Rattle.pawn_pre.specs.declared.line.Lines.{Lines}
use Rattle.pawn_pre.specs.declared.line.TheConstants.{MOST_BYTES}

-- the bytes of all lines together
abbrev pub bytes_of : List Line → ℕ
bytes_of lines = sum_by (λ (line : Line). length line.bytes) lines

-- each line stands in one of so many files
abbrev pub ArePlaced : ℕ → List Line → Type 0
ArePlaced files lines = All (λ (line : Line). line.place.file < files) lines

-- at most 1,048,576 bytes, and each place names a file
pub record IsBounded (lines : Lines) : Type 0 where
  pub small : bytes_of lines.lines ≤ MOST_BYTES
  pub placed : ArePlaced (length lines.files) lines.lines
