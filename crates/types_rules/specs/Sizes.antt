-- The sizes of arrays (Language Guide, "Arrays"): each is a constant of 1 or more, there are three
-- at most, and an array has no more cells than the limit.
use Rattle.std.specs.Prelude.{ℕ, ℤ, zero, suc, pos, negsuc, ◌+ℤ◌, List, [], ◌∷◌, ◌++◌, length}
use Rattle.std.specs.Prelude.{nat_le, if◌then◌else◌, Option, None, Some}
use Rattle.pawn_cells.specs.Cells.{floor_quotient}
use Rattle.pawn_arrays.specs.Sizes.{cells_of, cell_limit}
use Rattle.pawn_tree.specs.declared.name.At.{At}
use Rattle.pawn_tree.specs.Variables.{Dim, Open, Cells, Chars}
use Rattle.types_rules.specs.declared.fault.TheConstants.{CONSTANT_NEEDED, SIZES_DIFFER}
use Rattle.types_rules.specs.declared.fault.TheConstants.{LIMIT_ARRAY}
use Rattle.names_rules.specs.Verdict.{Verdict, Stands, after, both}
use Rattle.types_rules.specs.Rule.{broken}
use Rattle.types_rules.specs.Around.{Around}
use Rattle.types_rules.specs.Scope.{Scope}
use Rattle.types_rules.specs.Constants.{constant}

-- a size where one is given, and what it warns of
pub record Dimension : Type 0 where
  pub size : Option ℕ
  pub warned : List At

-- the sizes behind the first, which are always given
pub record Inner : Type 0 where
  pub sizes : List ℕ
  pub warned : List At

-- the first size, where it is given, and those behind it
pub record Dimensions : Type 0 where
  pub first : Option ℕ
  pub inner : List ℕ
  pub warned : List At

-- a size is 1 or more
abbrev pub positive_size : At → ℤ → List At → Verdict Dimension
positive_size at (pos zero) warned = broken LIMIT_ARRAY at
positive_size at (pos (suc n)) warned = Stands (record { size = Some (suc n); warned = warned })
positive_size at (negsuc n) warned = broken LIMIT_ARRAY at

-- the cells for so many packed characters
abbrev pub cells_for : ℤ → ℤ
cells_for characters = floor_quotient (characters +ℤ pos 3) (pos 4)

module _ (cx : Around) (scope : Scope) (at : At) where
  -- one dimension: unknown, so many cells, or the cells for so many characters
  abbrev pub dimension : Dim → Verdict Dimension
  dimension Open = Stands (record { size = None; warned = [] })
  dimension (Cells e) = after (constant cx scope at e) (λ it. positive_size at it.value it.warned)
  dimension (Chars e) =
      after (constant cx scope at e) (λ it. positive_size at (cells_for it.value) it.warned)

  -- a dimension behind the first one has a size
  abbrev pub inner_with : Dimension → Option ℕ → Inner → Verdict Inner
  inner_with it None more = broken CONSTANT_NEEDED at
  inner_with it (Some size) more =
      Stands (record { sizes = size ∷ more.sizes; warned = it.warned ++ more.warned })

  -- the dimensions behind the first one
  abbrev pub inner : List Dim → Verdict Inner
  inner [] = Stands (record { sizes = []; warned = [] })
  inner (dim ∷ dims) = both (dimension dim) (inner dims) (λ it more. inner_with it it.size more)

  -- all dimensions, of which the first one may be unknown
  abbrev pub dimensions_of : Dim → List Dim → Verdict Dimensions
  dimensions_of dim dims =
      both (dimension dim) (inner dims) (λ it more.
      Stands (record { first = it.size; inner = more.sizes; warned = it.warned ++ more.warned }))

  -- three at most
  abbrev pub dimensions : Dim → List Dim → Verdict Dimensions
  dimensions dim dims =
      if nat_le (length dims) 2 then dimensions_of dim dims else broken SIZES_DIFFER at

-- the sizes of an array that isn't too large
abbrev pub within : At → List ℕ → Verdict (List ℕ)
within at sizes = if nat_le (cells_of sizes) cell_limit then Stands sizes else broken LIMIT_ARRAY at
