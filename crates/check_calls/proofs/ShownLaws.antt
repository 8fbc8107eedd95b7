-- What is shown of the slots says the size and tag of what each parameter got.
use Rattle.std.proofs.Common.{◌≡◌, ℕ, zero, suc, List, [], ◌∷◌, map, Option, Some, None, refl}
use Rattle.std.specs.Prelude.{slice_get}
use Rattle.types_rules.specs.Defaults.{size_given, tag_given}
use Rattle.check_calls.specs.declared.filling.Filled.{Filled}
use Rattle.check_calls.specs.declared.filling.Filled.TheVariants.{Argument, Default}
use Rattle.check_calls.specs.FillingView.{slots_view}
use Rattle.check_calls.specs.Shown.{shown_in, size_shown, tag_shown}

pub size_is : (slots : List (Option Filled)) (i : ℕ)
    → size_given (slice_get (slots_view slots) i) ≡ size_shown (slice_get (map shown_in slots) i)
size_is [] i = refl
size_is (None ∷ slots) zero = refl
size_is (Some (Argument it) ∷ slots) zero = refl
size_is (Some Default ∷ slots) zero = refl
size_is (slot ∷ slots) (suc i) = size_is slots i

pub tag_is : (own : ℕ) (slots : List (Option Filled)) (i : ℕ)
    → tag_given own (slice_get (slots_view slots) i)
    ≡ tag_shown own (slice_get (map shown_in slots) i)
tag_is own [] i = refl
tag_is own (None ∷ slots) zero = refl
tag_is own (Some (Argument it) ∷ slots) zero = refl
tag_is own (Some Default ∷ slots) zero = refl
tag_is own (slot ∷ slots) (suc i) = tag_is own slots i

pub ruleset shown = (size_is, tag_is)
