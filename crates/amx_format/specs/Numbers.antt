-- Numbers in bytes, the lowest byte first.
use Rattle.std.specs.Prelude.{◌+◌, ℕ, zero, suc, ℤ, List, [], ◌∷◌, drop}
use Rattle.std.specs.Int.{w32, cast_signed}
use Rattle.byteorder.specs.Endian.{little_number}

-- the number in the two bytes at a place
unfoldable pub half_at : List ℕ → ℕ → ℕ
half_at bytes place = little_number 2 (drop place bytes)

-- the number in the four bytes at a place
unfoldable pub word_at : List ℕ → ℕ → ℕ
word_at bytes place = little_number 4 (drop place bytes)

-- the same as a number with a sign
abbrev pub cell_at : List ℕ → ℕ → ℤ
cell_at bytes place = cast_signed w32 (word_at bytes place)

-- so many cells from a place on
abbrev pub cells_at : List ℕ → ℕ → ℕ → List ℤ
cells_at bytes place zero = []
cells_at bytes place (suc n) = cell_at bytes place ∷ cells_at bytes (place + 4) n
