-- Where a list is a part of another one.
use Rattle.std.specs.Prelude.{◌≡◌, ◌+◌, ℕ, List, [], ◌∷◌, Some, slice_get}

-- from a place on
abbrev pub Sits : {A : Type 0} → List A → ℕ → List A → Type 0
Sits all place [] = Unit {0}
Sits all place (x ∷ more) = (slice_get all place ≡ Some x) × Sits all (place + 1) more
