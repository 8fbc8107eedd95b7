-- How many cells the pairs of a route are.
use Rattle.std.proofs.Common.{◌≡◌, ◌*◌, ℕ, List, [], ◌∷◌, length, refl, arith}
use Rattle.gen_laws.specs.RouteCode.{route_table}

pub table_count : (address : ℕ → ℕ) (cases : List (ℕ × ℕ))
    → length (route_table address cases) ≡ 2 * length cases
table_count address [] = refl
table_count address (case ∷ cases) = omega (arith, table_count address cases)
