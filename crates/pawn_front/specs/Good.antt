-- The program of lines is as the generator asks.
use Rattle.std.specs.Prelude.{◌<◌, ℕ, List, All}
use Rattle.pawn_cells.specs.declared.place.Place.{Place}
use Rattle.pawn_pre.specs.declared.line.Lines.{Lines}
use Rattle.pawn_pre.specs.Bounds.{IsBounded}
use Rattle.pawn_meaning.specs.Program.{Program}
use Rattle.types_laws.specs.GoodSources.{IsGoodProgram}
use Rattle.types_laws.specs.SmallTokens.{AreByteLines}
use Rattle.pawn_front.specs.Means.{IsProgramOf}

-- each number is a byte
abbrev pub AreBytes : List ℕ → Type 0
AreBytes bytes = All (λ byte. byte < 256) bytes

-- the program of lines of bytes that aren't too long is good
abbrev pub ProgramsOfSourcesAreGood : Type 0
ProgramsOfSourcesAreGood =
    (lines : Lines) (program : Program) (places : List Place) → IsBounded lines
    → AreByteLines lines.lines → IsProgramOf lines program places → IsGoodProgram program
