-- What names mean is there, where an expression stands: a value is a cell, a variable or an array
-- is an object, a local or a parameter, and each native that is called has a number.
use Rattle.std.specs.Prelude.{◌≡◌, ◌<◌, ℕ, List, Some, length, slice_get}
use Rattle.pawn_cells.specs.Cells.{IsCell}
use Rattle.pawn_meaning.specs.Program.{Scalar, Global, Own, Through, Element, Char, Object}
use Rattle.pawn_meaning.specs.Program.{SlotArray, ParamArray, Row, From, ScalarSlot, ReferenceSlot}
use Rattle.pawn_meaning.specs.Program as code
use Rattle.pawn_meaning.specs.Scope.{Extent, extent, IsMade, IsInSight}
use Rattle.pawn_meaning.specs.Scope as program
use Rattle.pawn_meaning.specs.ValidExprs.{IsCellObject}
use Rattle.types_rules.specs.Around.{Around, Callable}
use Rattle.types_rules.specs.Scope.{Meaning, Constant, Variable, Array, Function, Native, Entering}
use Rattle.types_rules.specs.Scope.{Taken, Unknown, Scope, found}
use Rattle.types_laws.specs.Meant.{AreCells}
use Rattle.types_laws.specs.Plain.{IsTag}

module _ (scope : program.Scope) where
  -- a variable
  abbrev pub IsSeenPlace : Scalar → Type 0
  IsSeenPlace (Global o) = IsCellObject (slice_get scope.program.objects o)
  IsSeenPlace (Own s) = (slice_get scope.slots s ≡ Some ScalarSlot) × IsInSight scope s
  IsSeenPlace (Through s) = (slice_get scope.slots s ≡ Some ReferenceSlot) × (s < scope.params)
  IsSeenPlace (Element a e) = ⊥
  IsSeenPlace (Char a e) = ⊥

  -- an array that reaches so far
  abbrev pub IsSeenArray : Extent → code.Array → Type 0
  IsSeenArray reach (Object o) = extent scope (Object o) ≡ Some reach
  IsSeenArray reach (SlotArray s) = (extent scope (SlotArray s) ≡ Some reach) × IsMade scope s
  IsSeenArray reach (ParamArray s known) =
      (extent scope (ParamArray s known) ≡ Some reach) × (s < scope.params)
  IsSeenArray reach (Row a e) = ⊥
  IsSeenArray reach (From a e) = ⊥

  module _ (cx : Around) (Calls : List ℕ → Type 0) where
    -- a native that is called is one of the program's
    pub record IsNumberedNative (name : List ℕ) (n : ℕ) : Type 0 where
      pub number_in : Calls name → (it : Callable) → slice_get cx.natives n ≡ Some it
          → it.number < length scope.program.natives

    -- what a name means
    abbrev pub IsSeen : List ℕ → Meaning → Type 0
    IsSeen name (Constant v tag) = IsCell v × IsTag tag
    IsSeen name (Variable p tag constant) = IsSeenPlace p × IsTag tag
    IsSeen name (Array a reach tag constant) = IsSeenArray reach a × AreCells reach × IsTag tag
    IsSeen name (Function f tag) = IsTag tag
    IsSeen name (Native n tag) = IsNumberedNative name n × IsTag tag
    IsSeen name (Entering tag) = IsTag tag
    IsSeen name Taken = Unit {0}
    IsSeen name Unknown = Unit {0}

    -- all names of a path
    pub record IsSeenPath (path : Scope) : Type 0 where
      pub meant : (name : List ℕ) (it : Meaning) → found path name ≡ Some it → IsSeen name it
