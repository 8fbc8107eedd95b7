-- What holds of a tree whose names are resolved, mark by mark: each occurrence has its declaration,
-- no name stands twice in one block, and each constant has its value.
use Rattle.std.specs.Prelude.{◌≡◌, ℤ, false, List, ◌∷◌, ◌++◌, Some}
use Rattle.pawn_tree.specs.Declarations.{Tree}
use Rattle.names_rules.specs.Verdict.{Stands}
use Rattle.names_rules.specs.Mark.{Mark, Uses, Declares, Use, Declaration}
use Rattle.names_rules.specs.TreeMarks.{tree_marks}
use Rattle.names_rules.specs.Known.{Known, Kind, Cells, Worth, Function}
use Rattle.names_rules.specs.Around.{around_of}
use Rattle.names_rules.specs.Found.{meaning, declared}
use Rattle.names_rules.specs.Here.{is_here}
use Rattle.names_rules.specs.Resolves.{Names, Resolves}

-- a mark of a tree, with those before it
pub record StandsIn (tree : Tree) (before : List Mark) (mark : Mark) : Type 0 where
  pub more : List Mark
  pub same : tree_marks tree ≡ more ++ mark ∷ before

-- a constant has its value
abbrev pub HasValue : Kind → Type 0
HasValue (Cells sizes) = Unit {0}
HasValue (Worth worth) = (value : ℤ) × (worth ≡ Stands value)
HasValue Function = Unit {0}

-- a tree whose marks break no rule
pub record IsResolved (tree : Tree) : Type 0 where
  pub found : (before : List Mark) (it : Use) → StandsIn tree before (Uses it)
      → (known : Known) × (meaning (around_of tree) before it.name ≡ Some known)
  pub once : (before : List Mark) (it : Declaration) → StandsIn tree before (Declares it)
      → it.outside ≡ false → is_here before it.name.bytes ≡ false
  pub valued : (before : List Mark) (it : Declaration) → StandsIn tree before (Declares it)
      → HasValue (declared (around_of tree) before it).kind

-- a tree with pairs is one such
abbrev pub ResolvedMeans : Type 0
ResolvedMeans = (tree : Tree) (names : Names) → Resolves tree names → IsResolved tree
