-- What a name means, as the rules of typing see it.
use Rattle.pawn_meaning.specs.Program as code
use Rattle.types_rules.specs.Scope as plain
use Rattle.check_nodes.specs.declared.meaning.CellAt.{CellAt}
use Rattle.check_nodes.specs.declared.meaning.CellAt.TheVariants as cell
use Rattle.check_nodes.specs.declared.meaning.ArrayAt.{ArrayAt}
use Rattle.check_nodes.specs.declared.meaning.ArrayAt.TheVariants as array
use Rattle.check_nodes.specs.declared.meaning.Meaning.{Meaning}
use Rattle.check_nodes.specs.declared.meaning.Meaning.TheVariants as means
use Rattle.check_nodes.specs.ExtentView.{extent_view}

-- where a variable stands
abbrev pub cell_view : CellAt → code.Scalar
cell_view (cell.Global object) = code.Global object
cell_view (cell.Slot slot) = code.Own slot
cell_view (cell.Through slot) = code.Through slot

-- where an array stands
abbrev pub place_view : ArrayAt → code.Array
place_view (array.Object object) = code.Object object
place_view (array.Slot slot) = code.SlotArray slot
place_view (array.Param slot known) = code.ParamArray slot known

-- a constant, a variable, an array, a function, or a name that is taken
abbrev pub meaning_view : Meaning → plain.Meaning
meaning_view (means.Constant value tag) = plain.Constant value tag
meaning_view (means.Variable at tag constant) = plain.Variable (cell_view at) tag constant
meaning_view (means.Array at extent tag constant) =
    plain.Array (place_view at) (extent_view extent) tag constant
meaning_view (means.Function number tag) = plain.Function number tag
meaning_view (means.Native number tag) = plain.Native number tag
meaning_view (means.Entering tag) = plain.Entering tag
meaning_view means.Taken = plain.Taken
