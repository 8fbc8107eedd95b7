-- Objects as a program has them.
use Rattle.std.specs.Prelude.{List, [], ◌∷◌}
use Rattle.pawn_meaning.specs.Program.{StaticObject}
use Rattle.pawn_meaning.specs.Valid.{IsValidObject}
use Rattle.pawn_meaning.specs.Limits.{IsWithinArray}

-- each element has a property
abbrev pub Each : {A : Type 0} → (A → Type 0) → List A → Type 0
Each P [] = Unit {0}
Each P (x ∷ more) = P x × Each P more

-- a valid object within the limits
pub record IsGoodObject (object : StaticObject) : Type 0 where
  pub valid : IsValidObject object
  pub within : IsWithinArray object.sizes
