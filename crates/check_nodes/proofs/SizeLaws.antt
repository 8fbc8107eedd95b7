-- No array has a fourth dimension.
use Rattle.std.proofs.Common.{◌≡◌, ◌≤◌, ℕ, suc, zero, List, [], ◌∷◌, Option, Some, None, refl}
use Rattle.std.proofs.Common.{arith}
use Rattle.std.specs.Prelude.{slice_get}
use Rattle.pawn_arrays.specs.Sizes.{inner_sizes}
use Rattle.types_rules.specs.NamesAndNumbers.{size_at}
use Rattle.check_nodes.specs.declared.extent.Extent.{Extent}
use Rattle.check_nodes.specs.ExtentView.{extent_view}

beyond : (second third : Option ℕ) (n : ℕ) → 2 ≤ n → slice_get (inner_sizes second third) n ≡ None
beyond None third n le = refl
beyond (Some second) None zero le = absurd (omega (arith, le))
beyond (Some second) None (suc n) le = refl
beyond (Some second) (Some third) zero le = absurd (omega (arith, le))
beyond (Some second) (Some third) (suc zero) le = absurd (omega (arith, le))
beyond (Some second) (Some third) (suc (suc n)) le = refl

pub size_beyond : (it : Extent) (n : ℕ) → 3 ≤ n → size_at (extent_view it) n ≡ None
size_beyond it zero le = absurd (omega (arith, le))
size_beyond it (suc n) le = beyond it.second it.third n (omega (arith, le))
