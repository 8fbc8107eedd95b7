-- Which functions name states, by their numbers.
use Rattle.std.specs.Prelude.{◌≡◌, ℕ, List, Bool, false, map, Option, None, Some, slice_get}
use Rattle.std.specs.Prelude.{unwrap_or}
use Rattle.std.specs.List.{list_any}
use Rattle.types_rules.specs.Groups.{Written, Group}
use Rattle.types_rules.specs.Automata.{names_states}
use Rattle.check_source.specs.GroupsView.{groups_view}
use Rattle.check_source.specs.declared.classified.Known.{Known}

-- one of some bodies names states
abbrev pub bodies_name : List Written → Bool
bodies_name bodies = list_any (λ (it : Written). names_states it.function.states) bodies

-- one of a function's bodies does
abbrev pub group_names : Group → Bool
group_names group = bodies_name group.bodies

-- what stands at a number, where one is there
abbrev pub named_at : List Bool → Option ℕ → Bool
named_at naming None = false
named_at naming (Some number) = unwrap_or (slice_get naming number) false

-- what code keeps of each function is whether it names states
pub record IsKnown (known : Known) : Type 0 where
  pub naming : known.naming.items ≡ map group_names (groups_view known.groups.now)
