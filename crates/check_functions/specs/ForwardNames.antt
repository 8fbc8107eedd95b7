-- The names that forwards among headings take.
use Rattle.std.specs.Prelude.{List, flat_map}
use Rattle.types_rules.specs.Scope.{Entry}
use Rattle.types_rules.specs.Headings.{Heading}
use Rattle.types_rules.specs.Sources.{Source, forward_entry}

-- in order
abbrev pub forwards_in : Source → List Heading → List Entry
forwards_in source headings = flat_map (λ (it : Heading). forward_entry source it it.role) headings
