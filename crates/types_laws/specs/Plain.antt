-- Values that are cells, and tags that are numbers of 32 bits.
use Rattle.std.specs.Prelude.{◌≡◌, ◌<◌, ◌≤◌, ◌^◌, ℕ, ℤ, List, Option, None, Some, length, slice_get}
use Rattle.pawn_cells.specs.Cells.{IsCell}
use Rattle.types_rules.specs.Around.{Around, Callable}
use Rattle.types_rules.specs.Scope.{Meaning, Constant, Variable, Array, Function, Native, Entering}
use Rattle.types_rules.specs.Scope.{Taken, Unknown, Scope, found}
use Rattle.types_laws.specs.Meant.{AreCells}

-- the number of a tag
abbrev pub IsTag : ℕ → Type 0
IsTag tag = tag < 2 ^ 32

-- a value that is known is a cell
abbrev pub IsValue : Option ℤ → Type 0
IsValue None = Unit {0}
IsValue (Some v) = IsCell v

-- what a name means: a value is a cell, and so are sizes
abbrev pub IsPlainMeaning : Meaning → Type 0
IsPlainMeaning (Constant v tag) = IsCell v × IsTag tag
IsPlainMeaning (Variable p tag constant) = IsTag tag
IsPlainMeaning (Array a reach tag constant) = AreCells reach × IsTag tag
IsPlainMeaning (Function f tag) = IsTag tag
IsPlainMeaning (Native n tag) = IsTag tag
IsPlainMeaning (Entering tag) = IsTag tag
IsPlainMeaning Taken = Unit {0}
IsPlainMeaning Unknown = Unit {0}

-- so is what each name of a path means
pub record IsPlainPath (path : Scope) : Type 0 where
  pub meant : (name : List ℕ) (it : Meaning) → found path name ≡ Some it → IsPlainMeaning it

-- the tags that are known around an expression
pub record HasTags (cx : Around) : Type 0 where
  pub names : length cx.tags ≤ 2 ^ 32
  pub functions : (f : ℕ) (it : Callable) → slice_get cx.functions f ≡ Some it → IsTag it.tag
  pub natives : (n : ℕ) (it : Callable) → slice_get cx.natives n ≡ Some it → IsTag it.tag
