-- Cells that are written one behind another, and the pairs of a case table.
use Rattle.std.specs.Prelude.{◌+◌, ℕ, zero, suc, ℤ, pos, ◌+ℤ◌, List, [], ◌∷◌, ◌++◌}
use Rattle.pawn_meaning.specs.Program.{Cases, no_cases, then_case}
use Rattle.pawn_meaning.specs.Weight.{values_in}
use Rattle.gen_expr.specs.Built.{Built}
use Rattle.gen_expr.specs.Filled.{filled}

-- from this cell on they replace what is there
abbrev pub over : ℕ → List ℤ → Built → Built
over at [] b = b
over at (v ∷ vs) b = over (at + 1) vs (filled at v b)

-- so many values from one on, each with an address
abbrev pub pairs_of : ℤ → ℕ → ℤ → List ℤ
pairs_of v zero to = []
pairs_of v (suc n) to = v ∷ to ∷ pairs_of (v +ℤ pos 1) n to

-- those of some ranges
abbrev pub ranges_pairs : List (ℤ × ℤ) → ℤ → List ℤ
ranges_pairs [] to = []
ranges_pairs (range ∷ ranges) to = pairs_of range.0 (values_in range) to ++ ranges_pairs ranges to

-- those of cases, each with its own address
abbrev pub cases_pairs : Cases → List ℤ → List ℤ
cases_pairs no_cases tos = []
cases_pairs (then_case ranges s cases) [] = []
cases_pairs (then_case ranges s cases) (to ∷ tos) = ranges_pairs ranges to ++ cases_pairs cases tos
