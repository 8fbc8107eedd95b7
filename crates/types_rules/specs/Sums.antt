-- What stands is within the limits on sums over the whole.
use Rattle.std.specs.Prelude.{◌≤◌, ℤ, List}
use Rattle.pawn_cells.specs.declared.place.Place.{Place}
use Rattle.pawn_tree.specs.Declarations.{Tree}
use Rattle.pawn_meaning.specs.Program.{Program}
use Rattle.pawn_meaning.specs.declared.program_limits.TheConstants.{DATA_LIMIT, WEIGHT_LIMIT}
use Rattle.pawn_meaning.specs.Limits.{data_cells}
use Rattle.pawn_meaning.specs.Weight.{weight}
use Rattle.types_rules.specs.IsTyped.{IsTyped}

-- the program's data and its code are within their limits
pub record IsWithinSums (program : Program) : Type 0 where
  pub cells : data_cells program ≤ DATA_LIMIT
  pub code : weight program ≤ WEIGHT_LIMIT

-- each program that a tree is
abbrev pub StandsWithinSums : Type 0
StandsWithinSums =
    (tree : Tree) (dynamic : ℤ) (program : Program) (warnings : List Place)
    → IsTyped tree dynamic program warnings → IsWithinSums program
