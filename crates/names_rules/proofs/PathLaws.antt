-- Going back from an occurrence finds what the path's tables hold.
use Rattle.std.proofs.Common.{◌≡◌, ℕ, zero, suc, List, [], ◌∷◌, ◌||◌, Some, if◌then◌else◌, refl, ap}
use Rattle.std.proofs.Common.{◌∙◌, sym}
use Rattle.std.specs.Str.{bytes_eq}
use Rattle.names_rules.specs.Mark.{Mark, Opens, Closes, Mentions, Uses, Declares}
use Rattle.names_rules.specs.Around.{Around}
use Rattle.names_rules.specs.Found.{found, meaning, declared}
use Rattle.names_rules.specs.Here.{stands_here, is_here}
use Rattle.names_rules.specs.Path.{Entry, Path, with_entry, outer_of, path_of, on_path}
use Rattle.names_rules.specs.Path.{innermost_has}

-- the path outside so many blocks
abbrev outside : ℕ → Path → Path
outside zero path = path
outside (suc closed) path = outside closed (outer_of path)

outer_with : (entry : Entry) (path : Path) → outer_of (with_entry entry path) ≡ outer_of path
outer_with entry [] = refl
outer_with entry (block ∷ outer) = refl

on_with : (around : Around) (entry : Entry) (path : Path) (name : List ℕ)
    → on_path around (with_entry entry path) name ≡ if bytes_eq entry.name name
    then Some entry.known else on_path around path name
on_with around entry [] name = refl
on_with around entry (block ∷ outer) name = refl

has_with : (entry : Entry) (path : Path) (name : List ℕ)
    → innermost_has (with_entry entry path) name
    ≡ (bytes_eq entry.name name || innermost_has path name)
has_with entry [] name = refl
has_with entry (block ∷ outer) name = refl

found_outside : (around : Around) (before : List Mark) (closed : ℕ) (name : List ℕ)
    → found around before closed name ≡ on_path around (outside closed (path_of around before)) name
found_outside around [] zero name = refl
found_outside around [] (suc closed) name = found_outside around [] closed name
found_outside around (Opens ∷ before) zero name = found_outside around before zero name
found_outside around (Opens ∷ before) (suc closed) name = found_outside around before closed name
found_outside around (Closes ∷ before) closed name = found_outside around before (suc closed) name
found_outside around (Mentions tag ∷ before) closed name = found_outside around before closed name
found_outside around (Uses it ∷ before) closed name = found_outside around before closed name
found_outside around (Declares it ∷ before) zero name =
    ap (λ other. if bytes_eq it.name.bytes name then Some (declared around before it) else other)
    (found_outside around before zero name)
    ∙ sym (on_with around _ (path_of around before) name)
found_outside around (Declares it ∷ before) (suc closed) name =
    found_outside around before (suc closed) name
    ∙ sym (ap (λ path. on_path around (outside closed path) name)
    (outer_with _ (path_of around before)))

here_outside : (around : Around) (before : List Mark) (closed : ℕ) (name : List ℕ)
    → stands_here before closed name ≡ innermost_has (outside closed (path_of around before)) name
here_outside around [] zero name = refl
here_outside around [] (suc closed) name = here_outside around [] closed name
here_outside around (Opens ∷ before) zero name = refl
here_outside around (Opens ∷ before) (suc closed) name = here_outside around before closed name
here_outside around (Closes ∷ before) closed name = here_outside around before (suc closed) name
here_outside around (Mentions tag ∷ before) closed name = here_outside around before closed name
here_outside around (Uses it ∷ before) closed name = here_outside around before closed name
here_outside around (Declares it ∷ before) zero name =
    ap (λ other. bytes_eq it.name.bytes name || other) (here_outside around before zero name)
    ∙ sym (has_with _ (path_of around before) name)
here_outside around (Declares it ∷ before) (suc closed) name =
    here_outside around before (suc closed) name
    ∙ sym (ap (λ path. innermost_has (outside closed path) name)
    (outer_with _ (path_of around before)))

pub path_finds : (around : Around) (before : List Mark) (name : List ℕ)
    → meaning around before name ≡ on_path around (path_of around before) name
path_finds around before name = found_outside around before zero name

pub path_has : (around : Around) (before : List Mark) (name : List ℕ)
    → is_here before name ≡ innermost_has (path_of around before) name
path_has around before name = here_outside around before zero name
