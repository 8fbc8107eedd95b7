-- Which tree spells which tokens: its declarations stand one behind another on all of them.
use Rattle.std.specs.Prelude.{ℕ, ◌==◌, ◌≤◌, Bool, not, List, length}
use Rattle.pawn_lex.specs.declared.token.Token.{Token}
use Rattle.pawn_tree.specs.Declarations.{Tree}
use Rattle.pawn_tree.specs.Height.{depth}
use Rattle.tree_rules.specs.Lists.{Many}
use Rattle.tree_rules.specs.Declarations.{IsDecl}
use Rattle.tree_rules.specs.Brackets.{IsShallow}

-- whether tokens are left
unfoldable pub are_left : List Token → ℕ → Bool
are_left ts i = not (i == length ts)

-- the declarations of a tree stand one behind another on all tokens; the highest is so high
pub record Spells (ts : List Token) (tree : Tree) : Type 0 where
  pub height : ℕ
  pub decls : Many (are_left ts) (IsDecl ts) height tree 0 (length ts)

-- the tree that the parser gives
pub record IsParse (ts : List Token) (tree : Tree) : Type 0 where
  pub spells : Spells ts tree
  pub low : depth tree ≤ 1024
  pub shallow : IsShallow ts
