-- The program of a source is as the generator asks.
use Rattle.std.specs.Prelude.{◌≤◌, ℤ, List}
use Rattle.pawn_cells.specs.declared.place.Place.{Place}
use Rattle.pawn_pre.specs.declared.line.Line.{Line}
use Rattle.pawn_pre.specs.declared.line.TheConstants.{MOST_BYTES}
use Rattle.pawn_pre.specs.Bounds.{bytes_of}
use Rattle.pawn_lex.specs.declared.token.Token.{Token}
use Rattle.pawn_lex.specs.Lines.{AreTokens}
use Rattle.pawn_tree.specs.Declarations.{Tree}
use Rattle.tree_rules.specs.Spells.{IsParse}
use Rattle.pawn_meaning.specs.Program.{Program}
use Rattle.pawn_meaning.specs.ProgramNames.{HasNames}
use Rattle.pawn_meaning.specs.Valid.{IsValid}
use Rattle.pawn_meaning.specs.Limits.{IsWithinLimits}
use Rattle.types_rules.specs.IsTyped.{IsTyped}
use Rattle.types_laws.specs.SmallTokens.{AreByteLines}

-- a program that the generator takes
pub record IsGoodProgram (program : Program) : Type 0 where
  pub valid : IsValid program
  pub limits : IsWithinLimits program
  pub names : HasNames program

-- lines of bytes that are tokens, which spell a tree, for which the program stands. They have no
-- more bytes than the lines of a source
abbrev pub SourcesAreGood : Type 0
SourcesAreGood =
    (lines : List Line) (ts : List Token) (tree : Tree) (dynamic : ℤ) (program : Program)
    (warnings : List Place) → AreByteLines lines → bytes_of lines ≤ MOST_BYTES → AreTokens lines ts
    → IsParse ts tree → IsTyped tree dynamic program warnings → IsGoodProgram program
