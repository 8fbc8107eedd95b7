-- The rows of all numbers that the program prints, in the order of docs/FAULTS.md.
use denote.Ref.{Bor}
use Rattle.std.specs.Prelude.{ℕ, List, ◌++◌, map}
use Rattle.std.specs.List.{flat_map}
use Rattle.command_texts.specs.declared.kind.Kind.{Kind}
use Rattle.command_texts.specs.declared.statuses.TheConstants.{STATUSES}
use Rattle.command_texts.specs.declared.lines.TheConstants.{LINES}
use Rattle.command_texts.specs.declared.trees.TheConstants.{TREES}
use Rattle.command_texts.specs.declared.values.TheConstants.{VALUES}
use Rattle.command_texts.specs.declared.calls.TheConstants.{CALLS}
use Rattle.command_texts.specs.declared.listings.TheConstants.{LISTINGS}
use Rattle.command_texts.specs.declared.errors.TheConstants.{ERRORS}
use Rattle.command_texts.specs.declared.files.TheConstants.{FILES}
use Rattle.command_texts.specs.declared.inputs.TheConstants.{INPUTS}

-- a number with its kind, what it says, what gives it, and its cure
pub record Row : Type 0 where
  pub kind : Kind
  pub number : ℕ
  pub says : List ℕ
  pub instance : List ℕ
  pub cure : List ℕ

-- a row as the code holds it
abbrev pub row_by : Kind × ℕ × Bor (List ℕ) × Bor (List ℕ) × Bor (List ℕ) → Row
row_by it =
    record { kind = it.0; number = it.1; says = it.2.now; instance = it.3.now; cure = it.4.now }

-- all of them
abbrev pub rows_by : List (Kind × ℕ × Bor (List ℕ) × Bor (List ℕ) × Bor (List ℕ)) → List Row
rows_by rows = map row_by rows

-- those of tables, one behind the other
abbrev pub rows_in : List (Bor (List (Kind × ℕ × Bor (List ℕ) × Bor (List ℕ) × Bor (List ℕ))))
    → List Row
rows_in tables = flat_map (λ table. rows_by table.now) tables

-- ---- the tables

-- a text of a constant
abbrev Text : Type 0
Text = record { now : List ℕ }

-- a row of a constant
abbrev row_of : Kind × ℕ × Text × Text × Text → Row
row_of it =
    record { kind = it.0; number = it.1; says = it.2.now; instance = it.3.now; cure = it.4.now }

-- the statuses of the program
unfoldable pub status_rows : List Row
status_rows = map row_of STATUSES

-- refused sources, by their lines and tokens
unfoldable pub line_rows : List Row
line_rows = map row_of LINES

-- by their tree and their automata
unfoldable pub tree_rows : List Row
tree_rows = map row_of TREES

-- by their names and values
unfoldable pub value_rows : List Row
value_rows = map row_of VALUES

-- by their calls, statements and sizes
unfoldable pub call_rows : List Row
call_rows = map row_of CALLS

-- refused texts of `assemble`, and the warning
unfoldable pub listing_rows : List Row
listing_rows = map row_of LISTINGS

-- errors of runs
unfoldable pub error_rows : List Row
error_rows = map row_of ERRORS

-- files that are no valid ones
unfoldable pub file_rows : List Row
file_rows = map row_of FILES

-- refused images and scripts
unfoldable pub input_rows : List Row
input_rows = map row_of INPUTS

-- ---- all

-- one table behind the other
abbrev pub rows : List Row
rows =
    status_rows ++ (line_rows ++ (tree_rows ++ (value_rows ++ (call_rows ++ (listing_rows
    ++ (error_rows ++ (file_rows ++ input_rows)))))))
