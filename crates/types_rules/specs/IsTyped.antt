-- The program and warnings that stand for a tree and a room for heap and stack: there is one at
-- most, since it is what the rules give.
use Rattle.std.specs.Prelude.{◌≡◌, ℤ, List, Contains}
use Rattle.pawn_cells.specs.declared.place.Place.{Place}
use Rattle.pawn_tree.specs.Declarations.{Tree}
use Rattle.pawn_meaning.specs.Program.{Program}
use Rattle.names_rules.specs.Verdict.{Fault, Stands, faults_of}
use Rattle.types_rules.specs.TypedTrees.{typed}

-- this program stands, with these warnings
abbrev pub IsTyped : Tree → ℤ → Program → List Place → Type 0
IsTyped tree dynamic program warnings =
    typed tree dynamic ≡ Stands (record { program = program; warnings = warnings })

-- none stands, and this fault is one of the reasons: the parts of the node at its place stand and
-- the node breaks the rule of its number, or the source as a whole does
abbrev pub IsFault : Tree → ℤ → Fault → Type 0
IsFault tree dynamic fault = Contains (faults_of (typed tree dynamic)) fault
