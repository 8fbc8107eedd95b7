-- Whether the block in which a place stands has a declaration of a name before it (Language Guide,
-- "Declarations").
use Rattle.std.specs.Prelude.{ℕ, zero, suc, Bool, false, ◌||◌, List, [], ◌∷◌}
use Rattle.std.specs.Str.{bytes_eq}
use Rattle.names_rules.specs.Mark.{Mark, Opens, Closes, Mentions, Uses, Declares}

-- behind some marks, outside so many blocks that were closed
abbrev pub stands_here : List Mark → ℕ → List ℕ → Bool
stands_here [] closed name = false
stands_here (Opens ∷ before) zero name = false
stands_here (Opens ∷ before) (suc closed) name = stands_here before closed name
stands_here (Closes ∷ before) closed name = stands_here before (suc closed) name
stands_here (Mentions tag ∷ before) closed name = stands_here before closed name
stands_here (Uses use_here ∷ before) closed name = stands_here before closed name
stands_here (Declares it ∷ before) zero name =
    bytes_eq it.name.bytes name || stands_here before zero name
stands_here (Declares it ∷ before) (suc closed) name = stands_here before (suc closed) name

-- the innermost block that is open behind these marks declares the name
abbrev pub is_here : List Mark → List ℕ → Bool
is_here before name = stands_here before zero name
