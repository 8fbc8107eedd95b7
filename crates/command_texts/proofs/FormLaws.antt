-- What is told of commands, from one of them on.
use denote.Ref.{Bor}
use Rattle.std.proofs.Common.{◌≡◌, ◌+◌, ◌<◌, ◌≤◌, ℕ, List, [], ◌++◌, Option, length, drop, get_or}
use Rattle.std.proofs.Common.{ap}
use Rattle.std.proofs.Math.ListN.{drop_of_length-le}
use Rattle.std.proofs.lemmas.List.{drop_more}
use Rattle.command_texts.specs.Forms.{form_by, forms_by, form_text, forms_text}

-- a command as the code holds it
abbrev pub Held : Type 0
Held = Bor (List ℕ) × Bor (List ℕ) × Bor (List ℕ)

module _ (asked : Option (List ℕ)) (all : List Held) (i : ℕ) where
  pub forms_from : (other : Held) → i < length all
      → forms_text asked (forms_by (drop i all))
      ≡ form_text asked (form_by (get_or all i other))
      ++ forms_text asked (forms_by (drop (i + 1) all))
  forms_from other h = ap (λ rest. forms_text asked (forms_by rest)) (drop_more all i other h)

  -- nothing is left behind the last
  pub forms_end : length all ≤ i → forms_text asked (forms_by (drop i all)) ≡ []
  forms_end h = ap (λ rest. forms_text asked (forms_by rest)) (drop_of_length-le all h)
