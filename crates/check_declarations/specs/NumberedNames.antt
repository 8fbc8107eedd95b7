-- The names of the functions of a source by number, as they are written: that of its first body,
-- `operator` followed by its sign for an operator.
use Rattle.std.specs.Prelude.{ℕ, List, map}
use Rattle.types_rules.specs.Groups.{Group}
use Rattle.types_rules.specs.Sources.{Source}
use Rattle.types_rules.specs.Publics.{group_name}

-- by number
abbrev pub function_names : Source → List (List ℕ)
function_names source = map (λ (group : Group). group_name group.bodies) source.groups
