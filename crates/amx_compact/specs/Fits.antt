-- Compact cells that can be expanded from the end in the room of their cells: no cell is written
-- over bytes that aren't read yet.
use Rattle.std.specs.Prelude.{◌+◌, ◌*◌, ◌≤◌, ℕ, List, length}
use Rattle.amx_compact.specs.Causes.{Leaves}

-- the spellings of the first so many cells take at most four bytes each
abbrev pub Fits : List ℕ → Type 0
Fits bytes =
    (count : ℕ) (rest : List ℕ) → Leaves bytes count rest → length bytes ≤ 4 * count + length rest
