-- Where the parts of an array stand, as the Pawn Implementer's Guide lays out arrays of several
-- dimensions. Places are in bytes from the array's first cell, and an offset counts from its own.
use Rattle.std.specs.Prelude.{◌≡◌, ℕ, ◌+◌, ◌*◌, ℤ, pos, ◌+ℤ◌, List, [], ◌∷◌, ◌++◌, length}
use Rattle.std.specs.Prelude.{slice_get, Some, unwrap_or, zero, suc}
use Rattle.pawn_arrays.specs.declared.shape.Shape.{Shape}
use Rattle.pawn_arrays.specs.Sizes.{sizes}

-- of parts of one size, in cells, the first begins at a place, and each next one where the one
-- before it ends
abbrev pub part_place : ℕ → ℕ → ℕ → ℕ
part_place start size zero = start
part_place start size (suc i) = part_place start size i + 4 * size

-- following each offset of the vector at a place leads to the first cell of its part, and the parts
-- stand behind the vector
pub record LeadsToParts (start size : ℕ) (offsets : List ℤ) : Type 0 where
  pub leads : (i : ℕ) (offset : ℤ) → slice_get offsets i ≡ Some offset
      → pos (start + 4 * i) +ℤ offset ≡ pos (part_place (start + 4 * length offsets) size i)

-- the offsets of so many parts of the first size at a place: one for each part of the next size,
-- and behind them the offsets of these parts
abbrev pub AreOffsets : ℕ → ℕ → List ℕ → List ℤ → Type 0
AreOffsets start parts [] offsets = offsets ≡ []
AreOffsets start parts (size ∷ []) offsets = offsets ≡ []
AreOffsets start parts (size ∷ next ∷ inner) offsets =
    (vector : List ℤ) × (deeper : List ℤ) × (offsets ≡ vector ++ deeper)
    × (length vector ≡ parts * size) × LeadsToParts start next vector
    × AreOffsets (start + 4 * (parts * size)) (parts * size) (next ∷ inner) deeper

-- the offsets of an array, which is one part of its outermost size
abbrev pub IsLayout : Shape → List ℤ → Type 0
IsLayout shape offsets = AreOffsets 0 1 (sizes shape) offsets

-- the second size, of the parts that a first index leads to: rows, or vectors of offsets
abbrev pub part_cells : Shape → ℕ
part_cells shape = unwrap_or shape.second 0

-- the third size, of the rows of three dimensions
abbrev pub inner_cells : Shape → ℕ
inner_cells shape = unwrap_or shape.third 0

-- the first cell of the part with a first index: the parts stand behind the vector, which has a
-- cell for each
abbrev pub row_place : Shape → ℕ → ℕ
row_place shape i = part_place (4 * shape.first) (part_cells shape) i

-- the first cell of a row of three dimensions: the rows stand behind all vectors, those of the
-- first part before those of the second
abbrev pub inner_place : Shape → ℕ → ℕ → ℕ
inner_place shape i j =
    part_place (4 * (shape.first + shape.first * part_cells shape)) (inner_cells shape)
    (i * part_cells shape + j)
