-- The tables have the number of each function.
use Rattle.std.specs.Prelude.{◌≡◌, List}
use Rattle.types_rules.specs.Keys.{Key}
use Rattle.types_rules.specs.Groups.{number_of}
use Rattle.check_source.specs.declared.groups.Group.{Group}
use Rattle.check_source.specs.declared.tables.Tables.{Tables}
use Rattle.check_source.specs.Found.{found_in}
use Rattle.check_source.specs.GroupsView.{groups_view}

-- of every key, also of one that no function has
pub record IsNumbered (groups : List Group) (tables : Tables) : Type 0 where
  pub numbers : (key : Key) → found_in tables key ≡ number_of (groups_view groups) key
