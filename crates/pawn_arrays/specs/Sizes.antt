-- The cells of an array by its sizes, as the Pawn Implementer's Guide lays out arrays of several
-- dimensions: levels stand one behind another, and a cell of each level but the last is an offset.
use Rattle.std.specs.Prelude.{ℕ, ◌+◌, ◌*◌, List, [], ◌∷◌, Option, None, Some}
use Rattle.std.specs.Option.{option_to_list}
use Rattle.pawn_arrays.specs.declared.shape.Shape.{Shape}
use Rattle.pawn_arrays.specs.declared.shape.TheConstants.{CELL_LIMIT}

-- the sizes behind the first: a third one counts behind a second one alone
abbrev pub inner_sizes : Option ℕ → Option ℕ → List ℕ
inner_sizes None third = []
inner_sizes (Some second) third = second ∷ option_to_list third

-- the sizes of a shape, the outermost first
abbrev pub sizes : Shape → List ℕ
sizes shape = shape.first ∷ inner_sizes shape.second shape.third

-- a level of so many parts of the first size, and the levels behind it: each of its cells stands
-- for one part of the next
abbrev pub cells_in : ℕ → List ℕ → ℕ
cells_in parts [] = 0
cells_in parts (size ∷ inner) = parts * size + cells_in (parts * size) inner

-- all cells of an array with these sizes, which is one part of its outermost one
abbrev pub cells_of : List ℕ → ℕ
cells_of sizes = cells_in 1 sizes

-- all cells of an array
abbrev pub cell_count : Shape → ℕ
cell_count shape = cells_of (sizes shape)

-- the elements of a part with these sizes, its offsets left out: a part without sizes is one cell
abbrev pub elements_in : List ℕ → ℕ
elements_in [] = 1
elements_in (size ∷ inner) = size * elements_in inner

-- the most cells that one array may take
abbrev pub cell_limit : ℕ
cell_limit = CELL_LIMIT
