-- At most one set of pairs stands for a tree, and none where a node breaks a rule.
use Rattle.std.specs.Prelude.{◌≡◌, ℕ}
use Rattle.pawn_cells.specs.declared.place.Place.{Place}
use Rattle.pawn_tree.specs.Declarations.{Tree}
use Rattle.names_rules.specs.Resolves.{Names, Resolves, Breaks}

-- a tree has one set of pairs at most
abbrev pub AtMostOneNames : Type 0
AtMostOneNames =
    (tree : Tree) (names other : Names) → Resolves tree names → Resolves tree other → names ≡ other

-- a tree whose names are resolved breaks none of these rules
abbrev pub ResolvedIsWhole : Type 0
ResolvedIsWhole =
    (tree : Tree) (names : Names) (kind : ℕ) (place : Place) → Resolves tree names
    → Breaks tree kind place → ⊥
