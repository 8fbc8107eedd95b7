-- Ranges in order: two of them have a value in common only where two neighbours do.
use Rattle.std.specs.Prelude.{ℤ, List, [], ◌∷◌, Bool, false, ◌||◌}
use Rattle.std.specs.Ordering.{int_cmp, is_lt, ordering_then}
use Rattle.types_rules.specs.Switches.{meet}

-- some neighbours have a value in common
abbrev pub neighbours_meet : List (ℤ × ℤ) → Bool
neighbours_meet [] = false
neighbours_meet (x ∷ []) = false
neighbours_meet (x ∷ y ∷ more) = meet x y || neighbours_meet (y ∷ more)

-- code that only looks at ranges gives nothing
abbrev pub apart_view : List (ℤ × ℤ) → Unit {0} → List (ℤ × ℤ)
apart_view ranges nothing = ranges

-- by the start, and then by the end
abbrev pub comes_before : ℤ × ℤ → ℤ × ℤ → Bool
comes_before x y = is_lt (ordering_then (int_cmp x.0 y.0) (int_cmp x.1 y.1))
