-- The names of the functions of a tree, and what they are beside its program.
use Rattle.std.specs.Prelude.{◌≡◌, ℕ, List, length, slice_get, Some}
use Rattle.std.specs.List.{AllByRecursion}
use Rattle.pawn_tree.specs.Declarations.{Tree}
use Rattle.pawn_meaning.specs.Program.{Public, Program}
use Rattle.types_rules.specs.Sources.{source_of}
use Rattle.check_declarations.specs.NumberedNames as names

-- by number, each as it is written in its first body; an operator's is `operator` with its sign
abbrev pub function_names : Tree → List (List ℕ)
function_names tree = names.function_names (source_of tree)

-- one of these names is each function's, and a public function is public under its own
pub record AreNames (program : Program) (names : List (List ℕ)) : Type 0 where
  pub long : length names ≡ length program.functions
  pub publics : AllByRecursion (λ (it : Public). slice_get names it.function ≡ Some it.name)
      program.publics
