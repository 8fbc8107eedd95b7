-- At most one program and list of warnings stands for a tree and a room, and none where there is a
-- fault.
use Rattle.std.specs.Prelude.{◌≡◌, ℤ, List}
use Rattle.pawn_cells.specs.declared.place.Place.{Place}
use Rattle.pawn_tree.specs.Declarations.{Tree}
use Rattle.pawn_meaning.specs.Program.{Program}
use Rattle.names_rules.specs.Verdict.{Fault}
use Rattle.types_rules.specs.IsTyped.{IsTyped, IsFault}

-- a tree is one program with one list of warnings, if any
abbrev pub AtMostOneProgram : Type 0
AtMostOneProgram =
    (tree : Tree) (dynamic : ℤ) (program other : Program) (warnings others : List Place)
    → IsTyped tree dynamic program warnings → IsTyped tree dynamic other others
    → (program ≡ other) × (warnings ≡ others)

-- a tree that is a program has no fault
abbrev pub NoFaultStands : Type 0
NoFaultStands =
    (tree : Tree) (dynamic : ℤ) (program : Program) (warnings : List Place) (fault : Fault)
    → IsTyped tree dynamic program warnings → IsFault tree dynamic fault → ⊥
