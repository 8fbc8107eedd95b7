-- What the definitions see of the functions that code holds, and a body more of one of them.
use Rattle.std.specs.Prelude.{List, [], ◌∷◌, ◌++◌, map}
use Rattle.types_rules.specs.Groups as plain
use Rattle.check_source.specs.KeyView.{key_view}
use Rattle.check_source.specs.declared.groups.Group.{Group}
use Rattle.check_source.specs.declared.written.Written.{Written}
use Rattle.check_source.specs.WrittenView.{written_view}

-- a function
abbrev pub group_view : Group → plain.Group
group_view it = record { key = key_view it.key; bodies = map written_view it.bodies }

-- all of them
abbrev pub groups_view : List Group → List plain.Group
groups_view groups = map group_view groups

-- with a body more
abbrev pub group_with : Written → Group → Group
group_with it group = record group { bodies = group.bodies ++ it ∷ [] }
