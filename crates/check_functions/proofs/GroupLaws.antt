-- Whether there are parameters.
use Rattle.std.proofs.Common.{◌≡◌, ◌≤◌, ℕ, true, List, [], ◌∷◌, map, length, refl, arith}
use Rattle.pawn_tree.specs.declared.declaration.Param.{Param}
use Rattle.pawn_tree.specs.View.{param_view}
use Rattle.types_rules.specs.Functions.{has_params}

pub some_params : (params : List Param) → 1 ≤ length params
    → has_params (map param_view params) ≡ true
some_params [] h = absurd (omega (arith, h))
some_params (x ∷ xs) h = refl
