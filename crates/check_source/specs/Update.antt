-- A list with the element at a place, or the first that passes a test, made another.
use Rattle.std.specs.Prelude.{ℕ, zero, suc, List, [], ◌∷◌, Bool, if◌then◌else◌}

-- with the element at a place changed
abbrev pub updated : {A : Type 0} → List A → ℕ → (A → A) → List A
updated [] i change = []
updated (x ∷ xs) zero change = change x ∷ xs
updated (x ∷ xs) (suc i) change = x ∷ updated xs i change

-- with the first that passes changed, or a new one at the end
abbrev pub with_first : {A : Type 0} → (A → Bool) → (A → A) → A → List A → List A
with_first passes change new [] = new ∷ []
with_first passes change new (x ∷ xs) =
    if passes x then change x ∷ xs else x ∷ with_first passes change new xs
