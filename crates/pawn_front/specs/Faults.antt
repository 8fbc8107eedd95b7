-- Why a source has no program: the fault of the first layer that refuses it. Lines are asked first,
-- then their tokens, then the tree of these, then its program.
use Rattle.std.specs.Prelude.{◌≡◌, ◌≤◌, ℕ, ℤ, List, Option, length}
use Rattle.pawn_cells.specs.declared.place.Place.{Place}
use Rattle.pawn_outside.specs.Held.{Held}
use Rattle.pawn_pre.specs.declared.line.Lines.{Lines}
use Rattle.pawn_pre.specs.Outcome.{Whole, Fault, Long, NotHeld, name_of}
use Rattle.pawn_lex.specs.declared.token.Token.{Token}
use Rattle.pawn_lex.specs.Lines.{AreTokens, IsFirstFault}
use Rattle.pawn_tree.specs.Declarations.{Tree}
use Rattle.tree_rules.specs.Brackets.{IsTooDeep}
use Rattle.tree_rules.specs.Spells.{IsParse}
use Rattle.pawn_parse.specs.Parses.{HasNoTree}
use Rattle.types_rules.specs.IsTyped.{IsFault}
use Rattle.pawn_front.specs.declared.fault.CompileFault.{CompileFault}
use Rattle.pawn_front.specs.declared.fault.CompileFault.TheVariants.{Refused, NoSource, TooLarge}
use Rattle.pawn_front.specs.declared.fault.CompileFault.TheVariants.{Files, Memory}
use Rattle.pawn_front.specs.Means.{ComesTo}
use Rattle.pawn_front.specs.Places.{place_at}

-- tokens of no tree, for a rule that is broken at a place: 31, more than 256 brackets are open at a
-- token, which is the first; 30, they are those of no tree of 1,024 levels at most
pub data BreaksTree (ts : List Token) (kind : ℕ) (place : Place) : Type 0 where
  too_deep : (n : ℕ) → IsTooDeep ts n → kind ≡ 31 → place ≡ place_at ts n
      → BreaksTree ts kind place
  no_tree : (n : ℕ) → HasNoTree ts → n ≤ length ts → kind ≡ 30 → place ≡ place_at ts n
      → BreaksTree ts kind place

-- tokens of no program: they are of no tree, or their tree has a fault
pub data BreaksTokens (ts : List Token) (dynamic : ℤ) (kind : ℕ) (place : Place) : Type 0 where
  by_tokens : BreaksTree ts kind place → BreaksTokens ts dynamic kind place
  by_tree : (tree : Tree) → IsParse ts tree
      → IsFault tree dynamic (record { kind = kind; place = place })
      → BreaksTokens ts dynamic kind place

-- lines of no program: their bytes have a fault, or their tokens are of none
pub data Breaks (lines : Lines) (kind : ℕ) (place : Place) : Type 0 where
  by_bytes : IsFirstFault lines.lines kind place → Breaks lines kind place
  behind_bytes : (ts : List Token) → AreTokens lines.lines ts
      → BreaksTokens ts lines.dynamic kind place → Breaks lines kind place

-- a source that is refused, by the number of the rule, the name of the file and the line
pub data IsRefused (held : Option Held) (name : List ℕ) (kind : ℕ) (file : List ℕ) (line : ℕ)
    : Type 0 where
  by_lines : (place : Place) → ComesTo held name (Fault kind place file) → line ≡ place.line
      → IsRefused held name kind file line
  behind_lines : (lines : Lines) (place : Place) → ComesTo held name (Whole lines)
      → Breaks lines kind place → file ≡ name_of lines.files place.file → line ≡ place.line
      → IsRefused held name kind file line

-- why a source isn't compiled. A fault of the files comes where their count rose, and want of
-- memory is free
abbrev pub NotCompiled : Option Held → List ℕ → CompileFault → Type 0
NotCompiled held name (Refused kind file line) = IsRefused held name kind file line
NotCompiled held name NoSource = ComesTo held name NotHeld
NotCompiled held name (TooLarge file) = ComesTo held name (Long file)
NotCompiled held name Files = Unit {0}
NotCompiled held name Memory = Unit {0}
