-- Headings with their typed heads, by their places.
use Rattle.std.specs.Prelude.{ℕ, List, Option, option_map, slice_get, unwrap_or}
use Rattle.std.specs.Option.{option_and_then}
use Rattle.pawn_tags.specs.Tags.{untagged}
use Rattle.types_rules.specs.Around.{Head}
use Rattle.types_rules.specs.Headings.{Heading}
use Rattle.types_rules.specs.Sources.{Source, tag_of_head}

-- the typed head at a place, where there is one
abbrev pub head_at : List (Option Head) → ℕ → Option Head
head_at heads place = option_and_then (λ (head : Option Head). head) (slice_get heads place)

-- the heading at a place
abbrev pub heading_at : List Heading → Option ℕ → Option Heading
heading_at headings place = option_and_then (slice_get headings) place

-- the tag of what a heading gives
abbrev pub heading_tag : Source → Option Heading → ℕ
heading_tag source it =
    unwrap_or (option_map (λ (x : Heading). tag_of_head source x.head) it) untagged

-- the typed head of a heading at a place
abbrev pub stated_head : List Heading → List (Option Head) → Option ℕ → Option Head
stated_head headings heads place =
    option_and_then (λ (i : ℕ). option_and_then (λ (it : Heading). head_at heads i)
    (slice_get headings i)) place
