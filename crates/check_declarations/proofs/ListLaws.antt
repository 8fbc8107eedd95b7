-- The names of a table in order.
use Rattle.std.proofs.Common.{◌≡◌, ◌+◌, ◌<◌, ◌≤◌, ℕ, List, [], ◌∷◌, ◌++◌, length, take, get_or, sym}
use Rattle.std.proofs.Common.{ap, ◌∙◌}
use Rattle.std.specs.Prelude.{slice_get, Some, None}
use Rattle.std.proofs.lemmas.List.{take_all, take_more}
use Rattle.std.proofs.lemmas.Option.{slice_get_within, slice_get-get_or, get_or_from_slice_get}

pub listed_more : (names : List (List ℕ)) (i : ℕ) (name : List ℕ) (list pushed : List (List ℕ))
    → list ≡ take i names → slice_get names i ≡ Some name
    → pushed ≡ list ++ name ∷ [] → pushed ≡ take (i + 1) names
listed_more names i name list pushed h here p =
    p ∙ ap (λ (xs : List (List ℕ)). xs ++ name ∷ []) h
    ∙ ap (λ (n : List ℕ). take i names ++ n ∷ [])
    (sym (get_or_from_slice_get names i name name here))
    ∙ sym (take_more names i name (slice_get_within names i name here))

pub listed_all : (names : List (List ℕ)) (i : ℕ) (list : List (List ℕ)) → list ≡ take i names
    → length names ≤ i → list ≡ names
listed_all names i list h le = h ∙ take_all i names le

-- a name that is there
pub name_there : (names : List (List ℕ)) (i : ℕ) → i < length names → slice_get names i ≡ None → ⊥
name_there names i lt e =
    let no : Some (get_or names i []) ≡ None = sym (slice_get-get_or names i [] lt) ∙ e in cc
