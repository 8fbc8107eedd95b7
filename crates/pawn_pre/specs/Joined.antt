-- The lines of a file, numbered, those that end in `\` joined with the next (Language Guide,
-- "Preprocessor").
use Rattle.std.specs.Prelude.{ℕ, ◌+◌, ◌-◌, ◌==◌, List, [], ◌∷◌, ◌++◌, Bool, true, false, length}
use Rattle.std.specs.Prelude.{take, slice_index, if◌then◌else◌}
use Rattle.std.specs.Str.Lines.{lines}
use Rattle.pawn_pre.specs.declared.row.Row.{Row}

-- the last byte is `\`
abbrev pub goes_on : List ℕ → Bool
goes_on line = slice_index line (length line - 1) == 92

-- a line is joined with the next one, where there is one
abbrev pub is_last : List (List ℕ) → Bool
is_last [] = true
is_last (line ∷ rest) = false

-- the line without that byte
abbrev pub front_of : List ℕ → List ℕ
front_of line = take (length line - 1) line

-- the first row gets a front, and the number of the line in which that stands
unfoldable pub glued : ℕ → List ℕ → List Row → List Row
glued number front [] = []
glued number front (row ∷ rows) =
    (record { number = number; bytes = front ++ row.bytes }) ∷ rows

-- the rows of lines that are counted from a number on
unfoldable pub joined : ℕ → List (List ℕ) → List Row
joined number [] = []
joined number (line ∷ rest) =
    if is_last rest then (record { number = number; bytes = line }) ∷ joined (number + 1) rest
    else (if goes_on line then glued number (front_of line) (joined (number + 1) rest)
    else (record { number = number; bytes = line }) ∷ joined (number + 1) rest)

-- the rows of a file: a byte 10 ends a line, one byte 13 before it is dropped
unfoldable pub rows_of : List ℕ → List Row
rows_of bytes = joined 1 (lines bytes)
