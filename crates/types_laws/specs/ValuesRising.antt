-- In a tree that spells tokens, and whose names are resolved, the pairs of constants and values
-- rise by the tokens of the constants' names. Where a constant had no value, the name of its
-- enumeration would stand before another one.
use Rattle.std.specs.Prelude.{List}
use Rattle.pawn_lex.specs.declared.token.Token.{Token}
use Rattle.pawn_tree.specs.Declarations.{Tree}
use Rattle.tree_rules.specs.Spells.{Spells}
use Rattle.names_rules.specs.Resolves.{Names, Resolves}
use Rattle.types_laws.specs.Rising.{AreRising}

-- each constant's name is a token of its own
abbrev pub ValuesRise : Type 0
ValuesRise = (ts : List Token) (tree : Tree) (names : Names) → Spells ts tree → Resolves tree names
    → AreRising 0 names.values
