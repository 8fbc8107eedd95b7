-- How many cells a packed text has.
use Rattle.std.proofs.Common.{◌≡◌, ◌+◌, ◌/◌, ℕ, List, [], ◌∷◌, length, refl, arith}
use Rattle.types_rules.specs.Texts.{packed_cells}

pub packed_length : (bytes : List ℕ) → length (packed_cells bytes) ≡ length bytes / 4 + 1
unfolding packed_cells
packed_length [] = refl
packed_length (a ∷ []) = refl
packed_length (a ∷ b ∷ []) = refl
packed_length (a ∷ b ∷ c ∷ []) = refl
packed_length (a ∷ b ∷ c ∷ d ∷ more) = let h = packed_length more in omega (arith, h)
