-- What can be called in a source that stands is a function of its program, so that the program is
-- within the limits.
use Rattle.std.specs.Prelude.{◌≤◌, ◌^◌, ℤ, List, length}
use Rattle.pawn_cells.specs.declared.place.Place.{Place}
use Rattle.pawn_tree.specs.Declarations.{Tree}
use Rattle.pawn_meaning.specs.Program.{Program}
use Rattle.types_rules.specs.Sources.{source_of, around_of}
use Rattle.types_rules.specs.IsTyped.{IsTyped}
use Rattle.types_laws.specs.Known.{KnowsAround}
use Rattle.types_laws.specs.Written.{IsAnyName}
use Rattle.types_laws.specs.WrittenDeclarations.{IsWrittenTree}
use Rattle.types_laws.specs.WithinLimits.{IsWithin}

-- what is known around each expression of a tree that stands is of its program
abbrev pub AroundsAreKnown : Type 0
AroundsAreKnown =
    (tree : Tree) (dynamic : ℤ) (program : Program) (warnings : List Place)
    → IsTyped tree dynamic program warnings → IsWrittenTree IsAnyName tree
    → length (source_of tree).tags ≤ 2 ^ 32
    → KnowsAround program (around_of (source_of tree) tree)

-- so the program is within the limits
abbrev pub TypedProgramsAreWithinLimits : Type 0
TypedProgramsAreWithinLimits =
    (tree : Tree) (dynamic : ℤ) (program : Program) (warnings : List Place)
    → IsTyped tree dynamic program warnings → IsWrittenTree IsAnyName tree
    → length (source_of tree).tags ≤ 2 ^ 32 → IsWithin program
