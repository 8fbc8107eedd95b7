-- How names are added to those before: no two of them clash so far, or one of the faults is
-- answered.
use Rattle.std.specs.Prelude.{◌≡◌, ℕ, false, List, [], ◌∷◌, Option, Some, None, Result, Ok, Err}
use Rattle.pawn_cells.specs.declared.place.Place.{Place}
use Rattle.pawn_tree.specs.declared.name.Name as n
use Rattle.names_rules.specs.FileNames.{FileName, Role, is_twice, twice_faults}
use Rattle.pawn_verdict.specs.declared.fault.CheckFault.{CheckFault}
use Rattle.names_sight.specs.declared.outside.Seen.{Seen}
use Rattle.pawn_verdict.specs.Answers.{Fails}
use Rattle.names_sight.specs.FileTable.{Table, Holds, seen_in, nothing_seen}

-- a table of names none of which stands twice
pub record IsWhole (tags : List (List ℕ)) (names : List FileName) (table : Table) : Type 0 where
  pub holds : Holds tags names table
  pub once : twice_faults names ≡ []

-- the name, the place of its node, and its role
pub record IsNamed (x : FileName) (name : n.Name) (place : Place) (role : Role) : Type 0 where
  pub name_is : x.name ≡ name
  pub place_is : x.place ≡ place
  pub role_is : x.role ≡ role

-- ---- one name

-- what is seen of a name, or nothing
abbrev pub seen_or : Option Seen → Seen
seen_or None = nothing_seen
seen_or (Some seen) = seen

-- it may stand with those before it, of which this is seen
pub record IsFree (x : FileName) (before : List FileName) (table : Table)
    (seen : Seen) : Type 0 where
  pub once : is_twice x before ≡ false
  pub same : seen ≡ seen_or (seen_in table x.name.bytes)

-- what is seen of a name that may stand with those before it, or a fault of it
abbrev pub AnswersSeen : FileName → List FileName → Table → Result Seen CheckFault → Type 0
AnswersSeen x before table (Ok seen) = IsFree x before table seen
AnswersSeen x before table (Err fault) = Fails (twice_faults (x ∷ before)) fault

-- ---- all names

-- a table that holds all names, or a fault of one that clashes
abbrev pub Adds : {A : Type 0} → List (List ℕ) → List FileName → Table → Result A CheckFault
    → Type 0
Adds tags names table (Ok done) = IsWhole tags names table
Adds tags names table (Err fault) = Fails (twice_faults names) fault

-- the same, of a table that is made
abbrev pub IsAdded : List (List ℕ) → List FileName → Result Table CheckFault → Type 0
IsAdded tags names (Ok table) = IsWhole tags names table
IsAdded tags names (Err fault) = Fails (twice_faults names) fault
