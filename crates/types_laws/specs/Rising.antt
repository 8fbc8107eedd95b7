-- In a tree that spells tokens the pairs of occurrences and declarations rise by the occurrences'
-- tokens.
use Rattle.std.specs.Prelude.{ℕ, suc, ◌≤◌, List, [], ◌∷◌}
use Rattle.pawn_lex.specs.declared.token.Token.{Token}
use Rattle.pawn_tree.specs.Declarations.{Tree}
use Rattle.tree_rules.specs.Spells.{Spells}
use Rattle.names_rules.specs.TreeMarks.{tree_marks}
use Rattle.names_rules.specs.Around.{Around}
use Rattle.names_rules.specs.Uses.{uses}

-- each first number is greater than those before it, and the first one isn't below a bound
abbrev pub AreRising : {A : Type 0} → ℕ → List (ℕ × A) → Type 0
AreRising least [] = Unit {0}
AreRising least (pair ∷ more) = (least ≤ pair.0) × AreRising (suc pair.0) more

-- whatever tags and operators are known
abbrev pub UsesRise : Type 0
UsesRise = (ts : List Token) (tree : Tree) (around : Around) → Spells ts tree
    → AreRising 0 (uses around (tree_marks tree))
