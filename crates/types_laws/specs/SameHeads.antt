-- Heads are first taken where calls have no head, and then judged where all heads are known. Where
-- declarations stand, both give the same heads, none of which is missing.
use Rattle.std.specs.Prelude.{◌≡◌, List, [], ◌∷◌, Option, None, Some}
use Rattle.pawn_tree.specs.Declarations.{Tree}
use Rattle.names_rules.specs.Verdict.{Stands}
use Rattle.types_rules.specs.Around.{Head}
use Rattle.types_rules.specs.Points.{Point}
use Rattle.types_rules.specs.Paths.{heads}
use Rattle.types_rules.specs.Sources.{Source, Stated, around_with}
use Rattle.types_rules.specs.Declarations.{Done, declarations}

-- each head is there
abbrev pub AreThere : List (Option Head) → Type 0
AreThere [] = Unit {0}
AreThere (None ∷ more) = ⊥
AreThere (Some head ∷ more) = AreThere more

-- all heads of a tree, by two sets of heads for its calls
pub record HasSameHeads (source : Source) (all others : List Stated) (point : Point) (tree : Tree)
    : Type 0 where
  pub same : heads (around_with source others) point tree
      ≡ heads (around_with source all) point tree
  pub there : AreThere (heads (around_with source all) point tree)

-- with whatever heads calls have besides
abbrev pub HeadsAreSame : Type 0
HeadsAreSame =
    (source : Source) (all others : List Stated) (point : Point) (tree : Tree) (done : Done)
    → declarations source (around_with source all) point tree ≡ Stands done
    → HasSameHeads source all others point tree
