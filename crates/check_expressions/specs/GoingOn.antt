-- By what values go on.
use Rattle.std.specs.Prelude.{ℤ, pos, List, [], ◌∷◌}
use Rattle.types_rules.specs.FirstValues.{last_of, step_of}

-- the last value of a list that has one
abbrev pub last_in : List ℤ → ℤ
last_in [] = pos 0
last_in (v ∷ more) = last_of v more

-- the value before the last one
abbrev pub before_in : List ℤ → ℤ
before_in [] = pos 0
before_in (v ∷ []) = pos 0
before_in (v ∷ next ∷ []) = v
before_in (v ∷ next ∷ second ∷ more) = before_in (next ∷ second ∷ more)

-- the difference of its last two values
abbrev pub step_in : List ℤ → ℤ
step_in [] = pos 0
step_in (v ∷ more) = step_of v more
