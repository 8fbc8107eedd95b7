-- A program that stands is valid.
use Rattle.std.specs.Prelude.{◌≤◌, ◌^◌, ℤ, List, length}
use Rattle.pawn_cells.specs.declared.place.Place.{Place}
use Rattle.pawn_tree.specs.Declarations.{Tree}
use Rattle.pawn_meaning.specs.Program.{Program}
use Rattle.pawn_meaning.specs.Valid.{IsValid}
use Rattle.types_rules.specs.Sources.{source_of}
use Rattle.types_rules.specs.IsTyped.{IsTyped}
use Rattle.types_laws.specs.Written.{IsAnyName}
use Rattle.types_laws.specs.WrittenDeclarations.{IsWrittenTree}

-- where its tree is as a source has it, with at most 2^32 tags
abbrev pub ProgramsAreValid : Type 0
ProgramsAreValid =
    (tree : Tree) (dynamic : ℤ) (program : Program) (warnings : List Place)
    → IsTyped tree dynamic program warnings → IsWrittenTree IsAnyName tree
    → length (source_of tree).tags ≤ 2 ^ 32 → IsValid program
