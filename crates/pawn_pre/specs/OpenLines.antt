-- The open part of a page: lines that are still to be settled, and the end of each file (Language
-- Guide, "Preprocessor").
use Rattle.std.specs.Prelude.{ℕ, Option, Some, None, List, [], ◌∷◌, Bool}
use Rattle.pawn_cells.specs.declared.place.Place.{Place}
use Rattle.pawn_pre.specs.declared.row.Row.{Row}
use Rattle.pawn_pre.specs.declared.directive.Word.{Word}
use Rattle.pawn_pre.specs.File.{File}
use Rattle.pawn_pre.specs.Directive.{Directive, directive}

-- plain bytes, or a directive's word and the bytes behind it
pub data Text : Type 0 where
  Plain : List ℕ → Text
  Directs : Word → List ℕ → Text

-- a line with its place, or a file's end with the place of its last line, which tells whether a
-- comment is open there
pub data Open : Type 0 where
  Line : Place → Text → Open
  End : Place → Bool → Open

-- by the directive that the bytes are
abbrev pub text_by : List ℕ → Option Directive → Text
text_by bytes None = Plain bytes
text_by bytes (Some d) = Directs d.word d.rest

-- the text of a line
abbrev pub text_of : List ℕ → Text
text_of bytes = text_by bytes (directive bytes)

-- a place by the numbers of file and line
abbrev pub place : ℕ → ℕ → Place
place file line = record { file = file; line = line }

-- rows of a file of this number, before other lines
unfoldable pub lines_of_rows : ℕ → List Row → List Open → List Open
lines_of_rows file [] rest = rest
lines_of_rows file (row ∷ rows) rest =
    Line (place file row.number) (text_of row.bytes) ∷ lines_of_rows file rows rest

-- a file's lines and its end, before other lines
abbrev pub lines_of_file : ℕ → File → List Open → List Open
lines_of_file number file rest =
    lines_of_rows number file.rows (End (place number file.last) file.unclosed ∷ rest)

-- without the lines before a file's end
unfoldable pub to_end : List Open → List Open
to_end [] = []
to_end (Line at text ∷ rest) = to_end rest
to_end (End last unclosed ∷ rest) = End last unclosed ∷ rest
