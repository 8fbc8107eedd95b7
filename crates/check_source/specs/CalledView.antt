-- The names that are called, as code holds them.
use Rattle.std.specs.Prelude.{ℕ, List, [], ◌∷◌, flat_map}
use Rattle.pawn_base.specs.Among.{with_name}
use Rattle.types_rules.specs.CalledIn.{called_in}
use Rattle.types_rules.specs.Groups.{Written}

-- names with others, each once
abbrev pub with_names : List (List ℕ) → List (List ℕ) → List (List ℕ)
with_names names [] = names
with_names names (name ∷ more) = with_names (with_name names name) more

-- the names that bodies call
abbrev pub called_by : List Written → List (List ℕ)
called_by bodies = flat_map (λ (it : Written). called_in it.function.body) bodies
