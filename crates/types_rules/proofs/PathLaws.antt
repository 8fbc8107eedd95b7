-- What a name means on a path with one more declaration.
use Rattle.std.proofs.Common.{◌≡◌, ℕ, List, [], ◌∷◌, Bool, true, false, Option, None, Some, reverse}
use Rattle.std.proofs.Common.{refl, ap, ◌∙◌}
use Rattle.std.specs.Prelude.{if◌then◌else◌}
use Rattle.std.specs.Option.{option_or}
use Rattle.std.specs.Str.{bytes_eq}
use Rattle.std.proofs.lemmas.List.{reverse-append}
use Rattle.types_rules.specs.Scope.{Scope, Meaning, Entry, first_named, found, with_entries}

pub found_by : (b : Bool) (it : Entry) (rest others : Option Meaning)
    → option_or (if b then Some it.means else rest) others
    ≡ if b then Some it.means else option_or rest others
found_by true it rest others = refl
found_by false it rest others = refl

pub found_with : (path : Scope) (it : Entry) (name : List ℕ)
    → found (with_entries path (it ∷ [])) name
    ≡ if bytes_eq it.name name then Some it.means else found path name
unfolding found
found_with [] it name = found_by (bytes_eq it.name name) it None (found [] name)
found_with (block ∷ outer) it name =
    ap (λ (entries : List Entry). option_or (first_named entries name) (found outer name))
    (reverse-append block (it ∷ []))
    ∙ found_by (bytes_eq it.name name) it (first_named (reverse block) name) (found outer name)
