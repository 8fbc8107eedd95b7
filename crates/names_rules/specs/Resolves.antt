-- When a tree's names are resolved, and which nodes break a rule of names.
use Rattle.std.specs.Prelude.{◌≡◌, ℕ, ℤ, List, []}
use Rattle.std.specs.List.{Contains}
use Rattle.pawn_cells.specs.declared.place.Place.{Place}
use Rattle.pawn_tree.specs.Declarations.{Tree}
use Rattle.names_rules.specs.TreeMarks.{tree_marks}
use Rattle.names_rules.specs.Around.{around_of}
use Rattle.names_rules.specs.Faults.{faults}
use Rattle.names_rules.specs.Uses as u
use Rattle.names_rules.specs.Values as v

-- pairs of tokens: an occurrence and the name in its declaration; and a constant's name and its
-- value
pub record Names : Type 0 where
  pub uses : List (ℕ × ℕ)
  pub values : List (ℕ × ℤ)

-- no node breaks a rule, and these are all pairs, in order
pub record Resolves (tree : Tree) (names : Names) : Type 0 where
  pub whole : faults tree ≡ []
  pub uses : names.uses ≡ u.uses (around_of tree) (tree_marks tree)
  pub values : names.values ≡ v.values (around_of tree) (tree_marks tree)

-- the node at a place breaks the rule of a number
abbrev pub Breaks : Tree → ℕ → Place → Type 0
Breaks tree kind place = Contains (faults tree) (record { kind = kind; place = place })
