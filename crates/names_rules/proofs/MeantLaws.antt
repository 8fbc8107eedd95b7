-- What is known of a name is what is known of the declaration that is meant.
use Rattle.std.proofs.Common.{◌≡◌, ℕ, zero, suc, Bool, true, false, if◌then◌else◌, List, [], ◌∷◌}
use Rattle.std.proofs.Common.{Some, refl, ap, ◌∙◌, sym}
use Rattle.std.specs.Str.{bytes_eq}
use Rattle.names_rules.specs.Mark.{Mark, Opens, Closes, Mentions, Uses, Declares, Declaration}
use Rattle.names_rules.specs.Around.{Around}
use Rattle.names_rules.specs.Found.{found, meaning, declared}
use Rattle.names_rules.specs.Meant.{Meant, Declared, meant, known_by}

chosen : (around : Around) (name : List ℕ) (same : Bool) (before : List Mark) (it : Declaration)
    (other : Meant)
    → known_by around name (if same then Declared before it else other)
    ≡ if same then Some (declared around before it) else known_by around name other
chosen around name true before it other = refl
chosen around name false before it other = refl

known_outside : (around : Around) (before : List Mark) (closed : ℕ) (name : List ℕ)
    → found around before closed name ≡ known_by around name (meant before closed name)
known_outside around [] closed name = refl
known_outside around (Opens ∷ before) zero name = known_outside around before zero name
known_outside around (Opens ∷ before) (suc closed) name = known_outside around before closed name
known_outside around (Closes ∷ before) closed name = known_outside around before (suc closed) name
known_outside around (Mentions tag ∷ before) closed name = known_outside around before closed name
known_outside around (Uses it ∷ before) closed name = known_outside around before closed name
known_outside around (Declares it ∷ before) zero name =
    ap (λ other. if bytes_eq it.name.bytes name then Some (declared around before it) else other)
    (known_outside around before zero name)
    ∙ sym (chosen around name (bytes_eq it.name.bytes name) before it (meant before zero name))
known_outside around (Declares it ∷ before) (suc closed) name =
    known_outside around before (suc closed) name

pub known_is_meant : (around : Around) (before : List Mark) (name : List ℕ)
    → meaning around before name ≡ known_by around name (meant before 0 name)
known_is_meant around before name = known_outside around before zero name
