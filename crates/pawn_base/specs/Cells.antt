-- A list of cells: each number fits 32 bits with its sign.
use Rattle.std.specs.Prelude.{List, ℤ, All, FitsSigned}
use Rattle.std.specs.Int.{w32}

-- no number of the list is too great or too small
abbrev pub AreCells : List ℤ → Type 0
AreCells cells = All (FitsSigned w32) cells
