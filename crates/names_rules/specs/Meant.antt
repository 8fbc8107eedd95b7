-- The declaration that an occurrence means, as it stands in the tree: that of its name in the
-- innermost block around it that has one which ended before it.
use Rattle.std.specs.Prelude.{ℕ, zero, suc, if◌then◌else◌, List, [], ◌∷◌, Option, Some}
use Rattle.std.specs.Str.{bytes_eq}
use Rattle.names_rules.specs.Mark.{Mark, Opens, Closes, Mentions, Uses, Declares, Declaration}
use Rattle.names_rules.specs.Known.{Known}
use Rattle.names_rules.specs.Around.{Around, everywhere}
use Rattle.names_rules.specs.Found.{declared}

-- where the declaration stands, if it is one of the marks
pub data Meant : Type 0 where
  -- a declaration, with the marks before it
  Declared : List Mark → Declaration → Meant
  -- a function, a predefined constant, or nothing
  Elsewhere : Meant

-- behind some marks, outside so many blocks that were closed
abbrev pub meant : List Mark → ℕ → List ℕ → Meant
meant [] closed name = Elsewhere
meant (Opens ∷ before) zero name = meant before zero name
meant (Opens ∷ before) (suc closed) name = meant before closed name
meant (Closes ∷ before) closed name = meant before (suc closed) name
meant (Mentions tag ∷ before) closed name = meant before closed name
meant (Uses it ∷ before) closed name = meant before closed name
meant (Declares it ∷ before) zero name =
    if bytes_eq it.name.bytes name then Declared before it else meant before zero name
meant (Declares it ∷ before) (suc closed) name = meant before (suc closed) name

-- what is known of it, for a name
abbrev pub known_by : Around → List ℕ → Meant → Option Known
known_by around name (Declared before it) = Some (declared around before it)
known_by around name Elsewhere = everywhere around name
