-- What `program` answers: the program that the source means, or why there is none.
use Rattle.std.specs.Prelude.{◌≡◌, ◌||◌, ℕ, List, Option, Bool, true, Result, Ok, Err, is_some}
use Rattle.pawn_outside.specs.Held.{Held}
use Rattle.pawn_pre.specs.declared.line.Lines.{Lines}
use Rattle.pawn_meaning.specs.Program.{Program}
use Rattle.pawn_meaning.specs.View.{program_view}
use Rattle.types_rules.specs.TypedTrees.{has_some}
use Rattle.types_laws.specs.GoodSources.{IsGoodProgram}
use Rattle.pawn_check.specs.FunctionNames.{AreNames, function_names}
use Rattle.pawn_front.specs.declared.sourced.Sourced.{Sourced}
use Rattle.pawn_front.specs.declared.fault.CompileFault.{CompileFault}
use Rattle.pawn_front.specs.Checks.{RefusesLines}
use Rattle.pawn_front.specs.Faults.{NotCompiled}
use Rattle.pawn_front.specs.Means.{HasProgram, Means}

-- there is a main or a public function
abbrev pub can_begin : Program → Bool
can_begin program = is_some program.entry || has_some program.publics

-- a program that can be made into a file and begun, and the names of its functions by number
pub record IsUsable (program : Program) (names : List (List ℕ)) : Type 0 where
  pub good : IsGoodProgram program
  pub begins : can_begin program ≡ true
  pub named : AreNames program names

-- the program of a source, its warnings, and the names of the functions as they are written
pub record IsSourced (held : Option Held) (name : List ℕ) (it : Sourced) : Type 0 where
  pub means : Means held name (program_view it.program) it.warnings
  pub names_are : it.names ≡ function_names means.has.is.typed.tree
  pub whole : IsUsable (program_view it.program) it.names

-- an answer agrees with what the source means
abbrev pub Sources : Option Held → List ℕ → Result Sourced CompileFault → Type 0
Sources held name (Ok it) = IsSourced held name it
Sources held name (Err fault) = NotCompiled held name fault

-- ---- of lines

-- the program of lines
pub record IsSourcedBy (lines : Lines) (it : Sourced) : Type 0 where
  pub has : HasProgram lines (program_view it.program) it.warnings
  pub names_are : it.names ≡ function_names has.is.typed.tree
  pub whole : IsUsable (program_view it.program) it.names

-- what lines answer
abbrev pub SourcesLines : Lines → Result Sourced CompileFault → Type 0
SourcesLines lines (Ok it) = IsSourcedBy lines it
SourcesLines lines (Err fault) = RefusesLines lines fault
