-- What `parse` answers. The four cases exclude one another, but for want of memory, which says
-- nothing.
use Rattle.std.specs.Prelude.{◌≡◌, ◌≤◌, List, length, Result, Ok, Err}
use Rattle.pawn_lex.specs.declared.token.Token.{Token}
use Rattle.pawn_tree.specs.Declarations.{Tree}
use Rattle.pawn_tree.specs.Height.{depth}
use Rattle.pawn_tree.specs.View.{tree_view}
use Rattle.pawn_tree.specs.declared.declaration.Tree as held
use Rattle.tree_rules.specs.Brackets.{IsShallow, IsTooDeep}
use Rattle.tree_rules.specs.Spells.{Spells, IsParse}
use Rattle.pawn_parse.specs.declared.parse_fault.ParseFault.{ParseFault}
use Rattle.pawn_parse.specs.declared.parse_fault.ParseFault.TheVariants.{TooDeep, Syntax, Memory}

-- brackets aren't too deep anywhere, and no tree of 1,024 levels at most spells the tokens
pub record HasNoTree (ts : List Token) : Type 0 where
  pub shallow : IsShallow ts
  pub none : (tree : Tree) → Spells ts tree → depth tree ≤ 1024 → ⊥

-- each answer with its cause
abbrev pub Parses : List Token → Result held.Tree ParseFault → Type 0
Parses ts (Ok tree) = IsParse ts (tree_view tree)
Parses ts (Err (TooDeep n)) = IsTooDeep ts n
Parses ts (Err (Syntax n)) = HasNoTree ts × (n ≤ length ts)
Parses ts (Err Memory) = Unit

-- this very tree is the answer
abbrev pub Finds : Tree → Result held.Tree ParseFault → Type 0
Finds tree (Ok found) = tree_view found ≡ tree
Finds tree (Err (TooDeep n)) = ⊥
Finds tree (Err (Syntax n)) = ⊥
Finds tree (Err Memory) = Unit
