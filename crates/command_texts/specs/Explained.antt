-- What `explain` tells: the rows with a number, or the first line of each row.
use Rattle.std.specs.Prelude.{ℕ, List, [], ◌++◌, ◌==◌, Bool, Option, None, Some, codes, find}
use Rattle.std.specs.Prelude.{if◌then◌else◌, is_some}
use Rattle.std.specs.List.{flat_map}
use Rattle.std.specs.Fmt.{decimal}
use Rattle.command_texts.specs.declared.kind.Kind.{Kind}
use Rattle.command_texts.specs.declared.kind.Kind.TheVariants as kind
use Rattle.command_texts.specs.Rows.{Row, rows}

-- the words before a number of this kind, as the program prints it
abbrev pub word_of : Kind → List ℕ
word_of kind.Status = codes "status"
word_of kind.Refused = codes "refused"
word_of kind.Warning = codes "warning"
word_of kind.Error = codes "error"
word_of kind.Invalid = codes "invalid"
word_of kind.BadImage = codes "bad image"
word_of kind.BadScript = codes "bad script"

-- the number, and what it says
abbrev pub head : Row → List ℕ
head row =
    word_of row.kind
    ++ (codes " " ++ (decimal row.number ++ (codes ": " ++ (row.says ++ codes "\n"))))

-- behind that what gives it, and its cure
abbrev pub row_whole : Row → List ℕ
row_whole row =
    head row
    ++ (codes "  for instance:\n    "
    ++ (row.instance ++ (codes "\n  cure: " ++ (row.cure ++ codes "\n"))))

-- the number is this one
abbrev pub has_number : ℕ → Row → Bool
has_number number row = row.number == number

-- what is told of a row: where a number is asked for, only of the rows with it
abbrev pub row_text : Option ℕ → Row → List ℕ
row_text None row = head row
row_text (Some number) row = if has_number number row then row_whole row else []

-- of rows, one behind the other
abbrev pub rows_text : Option ℕ → List Row → List ℕ
rows_text asked rows = flat_map (row_text asked) rows

-- of all
abbrev pub explained : Option ℕ → List ℕ
explained asked = rows_text asked rows

-- some row has this number
abbrev pub is_explained : ℕ → Bool
is_explained number = is_some (find (has_number number) rows)
