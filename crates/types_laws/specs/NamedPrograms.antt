-- The names of a program that stands, where the names among its source's tokens are names and the
-- tokens aren't too many bytes together.
use Rattle.std.specs.Prelude.{◌≤◌, ◌^◌, ℤ, List, length, sum_by, All}
use Rattle.pawn_cells.specs.declared.place.Place.{Place}
use Rattle.pawn_token.specs.Sizes.{IsNameOrOther}
use Rattle.pawn_lex.specs.declared.token.Token.{Token}
use Rattle.pawn_tree.specs.Declarations.{Tree}
use Rattle.tree_rules.specs.Spells.{IsParse}
use Rattle.pawn_meaning.specs.declared.name_limits.TheConstants.{NAMES_LIMIT}
use Rattle.pawn_meaning.specs.Program.{Program}
use Rattle.pawn_meaning.specs.ProgramNames.{HasNames}
use Rattle.types_rules.specs.Sources.{source_of}
use Rattle.types_rules.specs.IsTyped.{IsTyped}
use Rattle.types_laws.specs.TokenSizes.{token_size}

-- tokens whose names are names, with so many bytes at most
pub record AreNamedTokens (ts : List Token) : Type 0 where
  pub named : All (λ (token : Token). IsNameOrOther token.kind) ts
  pub bytes : sum_by (λ (token : Token). token_size token.kind) ts ≤ NAMES_LIMIT

-- a program that stands has names as those of a source
abbrev pub ProgramsHaveNames : Type 0
ProgramsHaveNames =
    (ts : List Token) (tree : Tree) (dynamic : ℤ) (program : Program) (warnings : List Place)
    → AreNamedTokens ts → IsParse ts tree → IsTyped tree dynamic program warnings
    → HasNames program

-- and the tags of a tree aren't too many to number
abbrev pub TagsAreFew : Type 0
TagsAreFew =
    (ts : List Token) (tree : Tree) → AreNamedTokens ts → IsParse ts tree
    → length (source_of tree).tags ≤ 2 ^ 32
