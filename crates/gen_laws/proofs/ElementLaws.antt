-- What holds of all elements of a list holds of one.
use Rattle.std.proofs.Common.{◌≡◌, ℕ, zero, suc, List, [], ◌∷◌, Some, slice_get, get_or, subst}
use Rattle.std.specs.Prelude.{All}
use Rattle.std.proofs.lemmas.Option.{slice_get_within}

got_at : {A : Type 0} (xs : List A) (i : ℕ) (y d : A) → slice_get xs i ≡ Some y → get_or xs i d ≡ y
got_at [] i y d e = cc
got_at (x ∷ xs) zero y d e = cc
got_at (x ∷ xs) (suc i) y d e = got_at xs i y d e

pub got : {A : Type 0} (P : A → Type 0) (xs : List A) (i : ℕ) (y : A) → All P xs
    → slice_get xs i ≡ Some y → P y
got P xs i y all e = subst P (got_at xs i y y e) (all i y (slice_get_within xs i y e))
