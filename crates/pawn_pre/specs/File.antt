-- A file as its lines with their comments blanked (Language Guide, "Comments").
use Rattle.std.specs.Prelude.{ℕ, List, [], ◌∷◌, ◌++◌, ◌-◌, Bool, true, false, length, take}
use Rattle.std.specs.Prelude.{if◌then◌else◌}
use Rattle.pawn_pre.specs.declared.quote.Quote.TheVariants.{Outside}
use Rattle.pawn_pre.specs.declared.row.Row.{Row}
use Rattle.pawn_pre.specs.Comments.{Part, Text, Remark, clean}
use Rattle.pawn_pre.specs.Joined.{rows_of}

-- the lines, the number of the last one, and whether a comment is open at the file's end; such a
-- file loses its last line, since nothing of that is looked at
pub record File : Type 0 where
  pub rows : List Row
  pub last : ℕ
  pub unclosed : Bool

-- the part in which a line begins
abbrev pub part_at : Bool → Part
part_at true = Remark
part_at false = Text Outside

-- rows before a file
abbrev pub with_rows : List Row → File → File
with_rows rows file = record {
  rows = rows ++ file.rows;
  last = file.last;
  unclosed = file.unclosed;
}

-- lines behind a line of a number, at whose end a comment is open or not
unfoldable pub blanked : Bool → ℕ → List Row → File
blanked unclosed last [] = record { rows = []; last = last; unclosed = unclosed }
blanked unclosed last (row ∷ rest) =
    let cleaned = clean (part_at unclosed) row.bytes in
    with_rows ((record { number = row.number; bytes = cleaned.bytes }) ∷ [])
    (blanked cleaned.unclosed row.number rest)

-- a file at whose end a comment is open loses its last line
abbrev pub without_open_line : File → File
without_open_line file =
    if file.unclosed then record file { rows = take (length file.rows - 1) file.rows } else file

-- a file without bytes has its last line at 1
unfoldable pub file_of : List ℕ → File
file_of bytes = without_open_line (blanked false 1 (rows_of bytes))
