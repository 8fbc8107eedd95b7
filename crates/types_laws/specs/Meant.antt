-- What names mean is there: a constant is a cell, and a place or an array is valid where the
-- expression stands.
use Rattle.std.specs.Prelude.{◌≡◌, ℕ, pos, List, Some, IfSome, slice_get}
use Rattle.pawn_cells.specs.Cells.{IsCell}
use Rattle.pawn_meaning.specs.Program as code
use Rattle.pawn_meaning.specs.Scope.{Extent, extent}
use Rattle.pawn_meaning.specs.Scope as program
use Rattle.pawn_meaning.specs.ValidExprs.{IsValidScalar, IsValidArray}
use Rattle.types_rules.specs.Scope.{Meaning, Constant, Variable, Array, Function, Native, Entering}
use Rattle.types_rules.specs.Scope.{Taken, Unknown, Scope, found}

-- sizes that are known are cells
pub record AreCells (reach : Extent) : Type 0 where
  pub first : IfSome reach.first (λ size. IsCell (pos size))
  pub inner : (i size : ℕ) → slice_get reach.inner i ≡ Some size → IsCell (pos size)

module _ (scope : program.Scope) where
  -- a valid array reaches so far
  pub record IsReached (a : code.Array) (reach : Extent) : Type 0 where
    pub array : IsValidArray scope a
    pub reaches : extent scope a ≡ Some reach
    pub cells : AreCells reach

  -- constants are cells, places and arrays are valid; nothing is asked of functions
  abbrev pub IsMeant : Meaning → Type 0
  IsMeant (Constant v tag) = IsCell v
  IsMeant (Variable p tag constant) = IsValidScalar scope p
  IsMeant (Array a reach tag constant) = IsReached a reach
  IsMeant (Function f tag) = Unit {0}
  IsMeant (Native n tag) = Unit {0}
  IsMeant (Entering tag) = Unit {0}
  IsMeant Taken = Unit {0}
  IsMeant Unknown = Unit {0}

  -- so is what each name of a path means
  pub record KnowsPath (path : Scope) : Type 0 where
    pub meant : (name : List ℕ) (it : Meaning) → found path name ≡ Some it → IsMeant it
