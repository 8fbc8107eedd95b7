-- A program that stands is within the limits, its objects are valid, and so is each body for its
-- own parameters.
use Rattle.std.specs.Prelude.{◌≤◌, ◌^◌, ℤ, List, length}
use Rattle.pawn_cells.specs.declared.place.Place.{Place}
use Rattle.pawn_tree.specs.Declarations.{Tree}
use Rattle.pawn_meaning.specs.Program.{Program}
use Rattle.pawn_meaning.specs.Valid.{IsValidObject}
use Rattle.pawn_meaning.specs.Limits.{IsWithinLimits}
use Rattle.types_rules.specs.Sources.{source_of, around_of}
use Rattle.types_rules.specs.IsTyped.{IsTyped}
use Rattle.types_laws.specs.Known.{KnowsAround}
use Rattle.types_laws.specs.Objects.{Each}
use Rattle.types_laws.specs.Written.{IsAnyName}
use Rattle.types_laws.specs.WrittenDeclarations.{IsWrittenTree}

-- within all limits, with valid objects
pub record IsWithin (program : Program) : Type 0 where
  pub limits : IsWithinLimits program
  pub objects : Each IsValidObject program.objects

-- so is each program that stands for a tree
abbrev pub ProgramsAreWithinLimits : Type 0
ProgramsAreWithinLimits =
    (tree : Tree) (dynamic : ℤ) (program : Program) (warnings : List Place)
    → IsTyped tree dynamic program warnings → IsWrittenTree IsAnyName tree
    → length (source_of tree).tags ≤ 2 ^ 32
    → KnowsAround program (around_of (source_of tree) tree) → IsWithin program
