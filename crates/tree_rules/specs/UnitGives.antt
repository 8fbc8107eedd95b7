-- The parser as a definition gives exactly the tree of 1,024 levels at most that spells the tokens.
use Rattle.std.specs.Prelude.{◌≡◌, ◌≤◌, List, Option, Some, None}
use Rattle.pawn_lex.specs.declared.token.Token.{Token}
use Rattle.pawn_tree.specs.Declarations.{Tree}
use Rattle.pawn_tree.specs.Height.{depth}
use Rattle.tree_rules.specs.Spells.{Spells}
use Rattle.tree_rules.specs.Readers.{Got}
use Rattle.tree_rules.specs.ReadDeclarations.{unit}

-- this tree was read
abbrev pub Gives : Tree → Option (Got Tree) → Type 0
Gives tree None = ⊥
Gives tree (Some x) = x.tree ≡ tree

-- what it gives spells the tokens, and has 1,024 levels at most
abbrev pub UnitIsSpelled : Type 0
UnitIsSpelled =
    (ts : List Token) (x : Got Tree) → unit ts ≡ Some x → Spells ts x.tree × (depth x.tree ≤ 1024)

-- each such tree is what it gives
abbrev pub UnitIsComplete : Type 0
UnitIsComplete =
    (ts : List Token) (tree : Tree) → Spells ts tree → depth tree ≤ 1024 → Gives tree (unit ts)
