-- At most one tree spells a list of tokens, of whatever height.
use Rattle.std.specs.Prelude.{◌≡◌, List}
use Rattle.pawn_lex.specs.declared.token.Token.{Token}
use Rattle.pawn_tree.specs.Declarations.{Tree}
use Rattle.tree_rules.specs.Spells.{Spells}

-- two trees that spell the same tokens are one
abbrev pub AtMostOneTree : Type 0
AtMostOneTree =
    (ts : List Token) (tree other : Tree) → Spells ts tree → Spells ts other → tree ≡ other
