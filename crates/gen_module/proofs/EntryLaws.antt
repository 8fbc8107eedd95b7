-- What is read from a table with an entry more.
use Rattle.std.proofs.Common.{◌≡◌, ◌⊎◌, inl, inr, ℕ, zero, suc, ℤ, List, [], ◌∷◌, ◌++◌, Some, length}
use Rattle.std.proofs.Common.{slice_get, refl, sym, ap}

pub get_more : (xs : List ℤ) (y x : ℤ) (i : ℕ) → slice_get (xs ++ y ∷ []) i ≡ Some x
    → (slice_get xs i ≡ Some x) ⊎ ((i ≡ length xs) × (x ≡ y))
get_more [] y x zero e = let same : y ≡ x = cc in inr (refl, sym same)
get_more [] y x (suc i) e = cc
get_more (z ∷ xs) y x zero e = inl e
get_more (z ∷ xs) y x (suc i) e = deeper (get_more xs y x i e)
  where
    deeper : (slice_get xs i ≡ Some x) ⊎ ((i ≡ length xs) × (x ≡ y))
        → (slice_get xs i ≡ Some x) ⊎ ((suc i ≡ suc (length xs)) × (x ≡ y))
    deeper (inl f) = inl f
    deeper (inr f) = inr (ap suc f.0, f.1)
