-- Compact cells: which bytes spell a cell, and which of its spellings is the shortest
-- (Implementer's Guide, "File format", on compact encoding).
use Rattle.std.specs.Prelude.{◌≡◌, ◌+◌, ◌*◌, ◌/◌, ◌%◌, ◌^◌, ◌<◌, ◌≤◌, ◌++◌, ℕ, List, [], ◌∷◌, ℤ}
use Rattle.std.specs.Prelude.{pos, ◌-ℤ◌, length, slice_index}
use Rattle.pawn_cells.specs.Cells.{wrap}

-- the seven low bits of each byte, times the powers of 128 that count the bytes behind it
abbrev pub group_sum : List ℕ → ℕ
group_sum [] = 0
group_sum (byte ∷ rest) = byte % 128 * 128 ^ length rest + group_sum rest

-- the sign of the first group: 1 where its highest bit, 0x40, is set
abbrev pub sign : List ℕ → ℕ
sign [] = 0
sign (first ∷ rest) = first / 64 % 2

-- the number of the groups in two's complement. Five groups have three bits more than a cell
abbrev pub signed_sum : List ℕ → ℤ
signed_sum bytes = pos (group_sum bytes) -ℤ pos (sign bytes * 128 ^ length bytes)

-- the flag 0x80 is on all bytes, so that the cell goes on
abbrev pub GoesOn : List ℕ → Type 0
GoesOn [] = Unit {0}
GoesOn (byte ∷ rest) = (128 ≤ byte) × (byte < 256) × GoesOn rest

-- the flag is on all bytes but the last
abbrev pub Ends : List ℕ → Type 0
Ends [] = ⊥
Ends (last ∷ []) = last < 128
Ends (byte ∷ next ∷ rest) = (128 ≤ byte) × (byte < 256) × Ends (next ∷ rest)

-- one to five bytes spell the cell
pub record Spelled (cell : ℤ) (bytes : List ℕ) : Type 0 where
  pub ends : Ends bytes
  pub short : length bytes ≤ 5
  pub sum : cell ≡ wrap (signed_sum bytes)

-- no spelling has fewer bytes, and five bytes have no bits that a cell lacks
pub record Shortest (cell : ℤ) (bytes : List ℕ) : Type 0 where
  pub spelled : Spelled cell bytes
  pub fewest : (others : List ℕ) → Spelled cell others → length bytes ≤ length others
  pub filled : length bytes ≡ 5 → slice_index bytes 0 % 128 < 16

-- the shortest spelling stands behind these bytes
abbrev pub Appends : ℤ → List ℕ → List ℕ → Type 0
Appends cell old new = (bytes : List ℕ) × Shortest cell bytes × (new ≡ old ++ bytes)

-- cells, each in some spelling, one behind another
abbrev pub SpelledAll : List ℤ → List ℕ → Type 0
SpelledAll [] bytes = bytes ≡ []
SpelledAll (cell ∷ cells) bytes = (front : List ℕ) × (rest : List ℕ) × Spelled cell front
    × (bytes ≡ front ++ rest) × SpelledAll cells rest

-- the same, each in its shortest spelling
abbrev pub ShortestAll : List ℤ → List ℕ → Type 0
ShortestAll [] bytes = bytes ≡ []
ShortestAll (cell ∷ cells) bytes = (front : List ℕ) × (rest : List ℕ) × Shortest cell front
    × (bytes ≡ front ++ rest) × ShortestAll cells rest
