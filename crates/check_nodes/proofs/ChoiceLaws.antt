-- The operator that is chosen for `=` is the one for exactly these tags.
use Rattle.std.proofs.Common.{◌≡◌, ℕ, Bool, false, Option, Some, None, option_map, refl}
use Rattle.std.specs.Option.{option_or}
use Rattle.pawn_tags.specs.Overloads.{Overloads, function_of, choice}
use Rattle.pawn_tags.specs.declared.op.Op.TheVariants as op
use Rattle.pawn_tags.specs.declared.operators.Choice.{Choice}

same_function : (f : Option ℕ)
    → option_map (λ (by : Choice). by.function)
    (option_or (option_map (λ (n : ℕ). record { function = n; swapped = false }) f) None) ≡ f
same_function None = refl
same_function (Some n) = refl

pub assigned_by : (defined : Overloads) (from to : ℕ)
    → option_map (λ (by : Choice). by.function) (choice defined op.Assign from to)
    ≡ function_of defined op.Assign from to
assigned_by defined from to = same_function (function_of defined op.Assign from to)
