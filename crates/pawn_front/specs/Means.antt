-- Which program a source has, and what it warns of, over the files that it includes: lines, tokens,
-- tree and program, each that of the one before.
use Rattle.std.specs.Prelude.{◌≡◌, ℕ, ℤ, List, Option, Some, map}
use Rattle.pawn_cells.specs.declared.place.Place.{Place}
use Rattle.pawn_outside.specs.Held.{Held}
use Rattle.pawn_pre.specs.declared.line.Lines.{Lines}
use Rattle.pawn_pre.specs.Outcome.{Outcome, Whole}
use Rattle.pawn_pre.specs.Page.{Comes}
use Rattle.pawn_lex.specs.declared.token.Token.{Token}
use Rattle.pawn_lex.specs.Lines.{AreTokens}
use Rattle.pawn_tree.specs.Declarations.{Tree}
use Rattle.tree_rules.specs.Spells.{IsParse}
use Rattle.pawn_meaning.specs.Program.{Program}
use Rattle.types_rules.specs.IsTyped.{IsTyped}
use Rattle.pawn_front.specs.declared.compiled.Warning.{Warning}
use Rattle.pawn_front.specs.Places.{warning_at}

-- what a source comes to in the preprocessor, where the files tell what they hold
abbrev pub ComesTo : Option Held → List ℕ → Outcome → Type 0
ComesTo held name o = (files : Held) → held ≡ Some files → Comes files name o

-- the program of tokens, for a room of so many cells, with the places of its warnings
pub record IsProgramOfTokens (ts : List Token) (dynamic : ℤ) (program : Program)
    (places : List Place) : Type 0 where
  pub tree : Tree
  pub is_tree : IsParse ts tree
  pub is_typed : IsTyped tree dynamic program places

-- the program of lines
pub record IsProgramOf (lines : Lines) (program : Program) (places : List Place) : Type 0 where
  pub tokens : List Token
  pub are_tokens : AreTokens lines.lines tokens
  pub typed : IsProgramOfTokens tokens lines.dynamic program places

-- with its warnings, by the names of the files and the numbers of the lines
pub record HasProgram (lines : Lines) (program : Program) (warnings : List Warning) : Type 0 where
  pub places : List Place
  pub is : IsProgramOf lines program places
  pub warnings_are : warnings ≡ map (warning_at lines.files) places

-- the program of a source
pub record Means (held : Option Held) (name : List ℕ) (program : Program)
    (warnings : List Warning) : Type 0 where
  pub lines : Lines
  pub comes : ComesTo held name (Whole lines)
  pub has : HasProgram lines program warnings
