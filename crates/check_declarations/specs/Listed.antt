-- The names of the natives that are called, one after another.
use Rattle.std.specs.Prelude.{ℕ, List, [], ◌∷◌, Bool, true, false}

-- a name, where it is to be listed
abbrev pub listed_by : Bool → List ℕ → List (List ℕ)
listed_by true name = name ∷ []
listed_by false name = []
