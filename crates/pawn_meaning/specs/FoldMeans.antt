-- What folds is the meaning: an expression folds to a value exactly where it is built of constants
-- and built-in operators alone, and its meaning gives that value and leaves the world as it was.
use Rattle.std.specs.Prelude.{◌≡◌, ◌↔◌, ℤ, true, Some}
use Rattle.pawn_meaning.specs.Program.{Expr}
use Rattle.pawn_meaning.specs.Fold.{is_constant, fold}
use Rattle.pawn_meaning.specs.Meaning.{Scene, Fewer, value}
use Rattle.pawn_meaning.specs.Run.{Gives}
use Rattle.pawn_meaning.specs.World.{World}

-- so in each program, for each script and bound on turns, and in each world
abbrev pub FoldMeans : Type 0
FoldMeans = (scene : Scene) (fewer : Fewer) (e : Expr) (v : ℤ)
    → (fold e ≡ Some v) ↔ ((is_constant e ≡ true)
    × ((w : World) → value scene fewer e w ≡ Gives v w))
