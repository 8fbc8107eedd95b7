-- The first entry function of a source.
use Rattle.std.proofs.Common.{◌≡◌, ℕ, Bool, true, false, cond, List, [], ◌∷◌, map, Option, None}
use Rattle.std.proofs.Common.{Some, option_map, refl, sym, ◌∙◌}
use Rattle.std.specs.Prelude.{find, slice_get}
use Rattle.std.specs.Option.{option_and_then}
use Rattle.types_rules.specs.Groups.{Group}
use Rattle.check_source.proofs.PlaceLaws.{place}
use Rattle.check_functions.specs.Own.{HasNumber}
use Rattle.check_functions.proofs.OwnLaws.{has_number}
use Rattle.check_functions.proofs.StatedLaws.{find_place}

-- what is found among what is seen
module _ {A B : Type 0} (view : A → B) (p : B → Bool) where
  viewed_by : (b : Bool) (x : A) (rest : Option A) (found : Option B) → option_map view rest ≡ found
      → option_map view (cond b (Some x) rest) ≡ cond b (Some (view x)) found
  viewed_by true x rest found e = refl
  viewed_by false x rest found e = e

  pub found_viewed : (xs : List A) → option_map view (find (λ (x : A). p (view x)) xs)
      ≡ find p (map view xs)
  found_viewed [] = refl
  found_viewed (x ∷ xs) =
      viewed_by (p (view x)) x (find (λ (y : A). p (view y)) xs) (find p (map view xs))
      (found_viewed xs)

-- what is found is a function's
found_at : (groups : List Group) (n : Option ℕ) (group : Group)
    → option_and_then (slice_get groups) n ≡ Some group → HasNumber groups group.key
found_at groups None group h = absurd (let no : ⊥ = cc in no)
found_at groups (Some i) group h = has_number groups i group h

pub found_has : (p : Group → Bool) (groups : List Group) (group : Group)
    → find p groups ≡ Some group
    → HasNumber groups group.key
found_has p groups group h = found_at groups (place p groups) group (sym (find_place p groups) ∙ h)
