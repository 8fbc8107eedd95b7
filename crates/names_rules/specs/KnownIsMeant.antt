-- What is known of a name behind some marks is what is known of the declaration that is meant.
use Rattle.std.specs.Prelude.{◌≡◌, ℕ, List}
use Rattle.names_rules.specs.Mark.{Mark}
use Rattle.names_rules.specs.Around.{Around}
use Rattle.names_rules.specs.Found.{meaning}
use Rattle.names_rules.specs.Meant.{meant, known_by}

-- what is known is found by the declaration alone
abbrev pub KnownIsMeant : Type 0
KnownIsMeant = (around : Around) (before : List Mark) (name : List ℕ)
    → meaning around before name ≡ known_by around name (meant before 0 name)
