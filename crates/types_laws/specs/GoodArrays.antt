-- The sizes and first cells of an array that stands are those of a good object.
use Rattle.std.specs.Prelude.{◌≡◌, ℕ, List, Bool, Option}
use Rattle.pawn_tree.specs.declared.name.At.{At}
use Rattle.pawn_tree.specs.Variables.{Dim, Init}
use Rattle.names_rules.specs.Verdict.{Stands}
use Rattle.types_rules.specs.Around.{Around}
use Rattle.types_rules.specs.Scope.{Scope}
use Rattle.types_rules.specs.Arrays.{ArrayValue, array_value}
use Rattle.types_laws.specs.Objects.{Each, IsGoodObject}
use Rattle.types_laws.specs.Written.{IsAnyName, IsWrittenDim, IsWrittenInit}
use Rattle.types_laws.specs.Plain.{IsPlainPath, HasTags}

-- an array that stands, as an object
abbrev pub ArraysAreGood : Type 0
ArraysAreGood =
    (cx : Around) (path : Scope) (at : At) (tag : ℕ) (dim : Dim) (dims : List Dim)
    (init : Option Init) (it : ArrayValue) (constant : Bool)
    → HasTags cx → IsPlainPath path → IsWrittenDim dim → Each IsWrittenDim dims
    → IsWrittenInit IsAnyName init → array_value cx path at tag dim dims init ≡ Stands it
    → IsGoodObject (record { sizes = it.sizes; constant = constant; first = it.cells })
