-- A tree that tokens spell is as a source has it, where numbers are cells and bytes are bytes.
use Rattle.std.specs.Prelude.{◌≡◌, ◌<◌, ◌^◌, ℕ, List, Some, length, slice_get}
use Rattle.pawn_cells.specs.Cells.{IsCell}
use Rattle.pawn_token.specs.declared.kind.TokenKind.{TokenKind}
use Rattle.pawn_token.specs.declared.kind.TokenKind.TheVariants as kind
use Rattle.pawn_lex.specs.declared.token.Token.{Token}
use Rattle.pawn_tree.specs.Declarations.{Tree}
use Rattle.tree_rules.specs.Spells.{IsParse}
use Rattle.types_laws.specs.Written.{AreBytes, IsAnyName}
use Rattle.types_laws.specs.WrittenDeclarations.{IsWrittenTree}

-- bytes, not too many
pub record IsSmallText (bytes : List ℕ) : Type 0 where
  pub bytes_are : AreBytes bytes
  pub short : length bytes < 2 ^ 30

-- what tokens hold is small
abbrev pub IsSmallKind : TokenKind → Type 0
IsSmallKind (kind.Name bytes) = IsSmallText bytes
IsSmallKind (kind.Key k) = Unit {0}
IsSmallKind (kind.Number v) = IsCell v
IsSmallKind (kind.Text bytes packed) = IsSmallText bytes
IsSmallKind (kind.Sign s) = Unit {0}

-- so is what each token holds
pub record AreSmallTokens (ts : List Token) : Type 0 where
  pub small : (i : ℕ) (token : Token) → slice_get ts i ≡ Some token → IsSmallKind token.kind

-- a tree that they spell is as a source has it
abbrev pub TreesAreWritten : Type 0
TreesAreWritten =
    (ts : List Token) (tree : Tree) → AreSmallTokens ts → IsParse ts tree
    → IsWrittenTree IsAnyName tree
