-- The parameters of a head by their names, as code holds them in a table.
use Rattle.std.specs.Prelude.{◌≡◌, ℕ, List, Option, position}
use Rattle.std.specs.Borrow.{Bor}
use Rattle.std.specs.Map.{lookup}
use Rattle.std.specs.Str.{bytes_eq}
use Rattle.check_nodes.specs.declared.context.Param.{Param}

-- numbers by names
abbrev pub Table : Type 0
Table = List (Bor (List ℕ) × ℕ)

-- the number that a name has
abbrev pub number_in : List ℕ → Table → Option ℕ
number_in name table = lookup (λ key. bytes_eq name key.now) table

-- the number of the first parameter with a name
abbrev pub number_of : List ℕ → List Param → Option ℕ
number_of name params = position (λ (param : Param). bytes_eq param.name name) params

-- the table has that of each name
pub record AreNumbers (params : List Param) (table : Table) : Type 0 where
  pub told : (name : List ℕ) → number_in name table ≡ number_of name params
