-- The cells of objects, one behind another.
use Rattle.std.specs.Prelude.{◌≡◌, ◌≤◌, ◌+◌, ℕ, List, map, drop}
use Rattle.std.specs.List.{fold}
use Rattle.pawn_arrays.specs.Sizes.{cells_of}
use Rattle.pawn_meaning.specs.Program.{StaticObject}
use Rattle.pawn_meaning.specs.View.{object_view}
use Rattle.pawn_meaning.specs.declared.program.Object.{Object}
use Rattle.pawn_meaning.specs.declared.program_limits.TheConstants.{DATA_LIMIT}

-- behind so many cells
abbrev pub cells_behind : ℕ → List Object → ℕ
cells_behind sum objects =
    fold (λ a (it : StaticObject). a + cells_of it.sizes) sum (map object_view objects)

-- all cells of objects
abbrev pub cells_of_all : List Object → ℕ
cells_of_all objects = cells_behind 0 objects

-- so many objects are counted, and the sum is within the limit
pub record Counted (objects : List Object) (i : ℕ) (sum : ℕ) : Type 0 where
  pub same : cells_behind sum (drop i objects) ≡ cells_of_all objects
  pub within : sum ≤ DATA_LIMIT
