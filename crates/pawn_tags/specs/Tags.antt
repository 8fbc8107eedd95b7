-- Tags by name (Language Guide, "Tag names"). The number of a tag is the place of its name among
-- those mentioned so far.
use Rattle.std.specs.Prelude.{ℕ, List, [], ◌∷◌, Bool, false, ◌&&◌, Option, position, slice_get}
use Rattle.std.specs.Prelude.{unwrap_or, nat_le, codes}
use Rattle.std.specs.Str.{bytes_eq}

-- the names that stand in each table from the start: that of no tag, and that of truth values
abbrev pub first_names : List (List ℕ)
first_names = codes "_" ∷ codes "bool" ∷ []

-- the number of `_`, which is no tag
abbrev pub untagged : ℕ
untagged = 0

-- the number of a tag by its name, if it is mentioned
abbrev pub number_of : List (List ℕ) → List ℕ → Option ℕ
number_of names name = position (bytes_eq name) names

-- from `A` to `Z`
abbrev pub begins_with_capital : List ℕ → Bool
begins_with_capital [] = false
begins_with_capital (letter ∷ more) = nat_le 65 letter && nat_le letter 90

-- a tag whose name begins with a capital letter is strong, and each other one is weak
abbrev pub is_strong : List (List ℕ) → ℕ → Bool
is_strong names tag = begins_with_capital (unwrap_or (slice_get names tag) [])
