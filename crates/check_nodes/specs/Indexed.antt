-- The table tells of each name what it means by the declarations in sight.
use Rattle.std.specs.Prelude.{ℕ}
use Rattle.names_rules.specs.InSight.{Ways, Table}
use Rattle.names_rules.specs.InSight as sight
use Rattle.check_nodes.specs.declared.scopes.Declared.{Declared}
use Rattle.check_nodes.specs.declared.scopes.Hidden.{Hidden}
use Rattle.check_nodes.specs.Scopes.{Stack}

-- what is seen of a declaration
abbrev pub ways : Ways Declared Hidden
ways = record {
  name = λ it. it.name;
  declared = λ it. it.declared;
  before = λ it. it.before;
  depth = λ it. it.depth;
}

-- the table of a list of declarations, and the number of open blocks
abbrev pub IsIndexed : Stack → Table Declared → ℕ → Type 0
IsIndexed stack table depth = sight.IsIndexed ways stack table depth
