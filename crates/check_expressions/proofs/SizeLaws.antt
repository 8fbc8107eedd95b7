-- Sizes as code counts them.
use Rattle.std.proofs.Common.{◌≡◌, ◌≢◌, ℕ, zero, suc, pos, List, Some, refl}
use Rattle.pawn_tree.specs.declared.name.At.{At}
use Rattle.names_rules.specs.Verdict.{Stands}
use Rattle.types_rules.specs.Sizes.{positive_size}

-- a size other than 0
pub size_given : (at : At) (n : ℕ) (warned : List At) → n ≢ 0
    → positive_size at (pos n) warned ≡ Stands (record { size = Some n; warned = warned })
size_given at zero warned h = absurd (h refl)
size_given at (suc n) warned h = refl
