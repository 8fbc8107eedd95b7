-- Classifiers that name several automata.
use Rattle.std.specs.Prelude.{List, Bool, false, Option, None, Some}
use Rattle.std.specs.List.{list_any}
use Rattle.pawn_tree.specs.declared.name.StateName.{StateName}
use Rattle.types_rules.specs.Clauses.{is_mixed}
use Rattle.types_rules.specs.Groups.{Written}

-- whether a classifier does, where there is one
abbrev pub mixes_by : Option (List StateName) → Bool
mixes_by None = false
mixes_by (Some states) = is_mixed states

-- whether that of some body does
abbrev pub any_mixed : List Written → Bool
any_mixed bodies = list_any (λ (it : Written). mixes_by it.function.states) bodies
