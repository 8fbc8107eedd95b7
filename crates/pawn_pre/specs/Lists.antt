-- The first of a list, and what stands behind it.
use Rattle.std.specs.Prelude.{Option, Some, None, List, [], ◌∷◌}

-- the first, if there is one
abbrev pub first_of : {A : Type 0} → List A → Option A
first_of [] = None
first_of (a ∷ rest) = Some a

-- what stands behind it
abbrev pub rest_of : {A : Type 0} → List A → List A
rest_of [] = []
rest_of (a ∷ rest) = rest
