-- Constants, sizes and first values, as the rules of values see them.
use Rattle.std.specs.Prelude.{[], ◌∷◌, map}
use Rattle.pawn_arrays.specs.Sizes.{inner_sizes, sizes}
use Rattle.pawn_meaning.specs.View.{object_view}
use Rattle.types_rules.specs.Constants as constants
use Rattle.types_rules.specs.Sizes as plain
use Rattle.types_rules.specs.FirstValues as firsts
use Rattle.types_rules.specs.Arrays as arrays
use Rattle.types_rules.specs.Cells as cells
use Rattle.check_nodes.specs.CodeView.{code_view}
use Rattle.check_expressions.specs.declared.constants.Constant.{Constant}
use Rattle.check_expressions.specs.declared.sizes.Dimension.{Dimension}
use Rattle.check_expressions.specs.declared.sizes.Given.{Given}
use Rattle.check_expressions.specs.declared.sizes.Inner.{Inner}
use Rattle.check_expressions.specs.declared.sizes.Dimensions.{Dimensions}
use Rattle.check_expressions.specs.declared.filling.First.{First}
use Rattle.check_expressions.specs.declared.arrays.Shaped.{Shaped}
use Rattle.check_expressions.specs.declared.arrays.ArrayValue.{ArrayValue}
use Rattle.check_expressions.specs.declared.cells.LocalValue.{LocalValue}

-- ---- constants

-- a constant
abbrev pub constant_view : Constant → constants.Constant
constant_view it =
    record { at = it.at; value = it.value; tag = it.tag; warned = it.warned }

-- ---- sizes

-- a size, where it is given
abbrev pub dimension_view : Dimension → plain.Dimension
dimension_view it = record { size = it.size; warned = it.warned }

-- one size behind the first
abbrev pub given_view : Given → plain.Inner
given_view it = record { sizes = it.size ∷ []; warned = it.warned }

-- the sizes behind the first
abbrev pub inner_view : Inner → plain.Inner
inner_view it = record { sizes = inner_sizes it.second it.third; warned = it.warned }

-- all sizes
abbrev pub dimensions_view : Dimensions → plain.Dimensions
dimensions_view it =
    record { first = it.first; inner = inner_sizes it.second it.third; warned = it.warned }

-- ---- first values

-- first cells
abbrev pub first_view : First → firsts.First
first_view it = record { cells = it.cells; warned = it.warned }

-- the sizes of an array
abbrev pub shaped_view : Shaped → arrays.Shaped
shaped_view it = record { sizes = sizes it.shape; warned = it.warned }

-- an array
abbrev pub array_value_view : ArrayValue → arrays.ArrayValue
array_value_view it =
    record { sizes = sizes it.shape; cells = it.cells; warned = it.warned }

-- what a local variable begins with
abbrev pub local_view : LocalValue → cells.LocalValue
local_view it = record {
  code = code_view it.code;
  literals = map object_view it.made.literals;
  warned = it.made.warned;
}
