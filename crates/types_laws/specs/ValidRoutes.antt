-- Each function of a program is routed as it should be, and each automaton is valid.
use Rattle.std.specs.Prelude.{◌≡◌, ℤ, List, length, IfSome, IfNone}
use Rattle.pawn_tree.specs.Declarations.{Tree}
use Rattle.pawn_meaning.specs.Program.{Function, Program}
use Rattle.pawn_meaning.specs.Valid.{IsValidRoute, IsValidAutomaton}
use Rattle.names_rules.specs.Verdict.{Stands}
use Rattle.names_rules.specs.Mark.{Mark}
use Rattle.types_rules.specs.Sources.{Source, source_of, all_stated, around_of, beginning}
use Rattle.types_rules.specs.Declarations.{Done, declarations}
use Rattle.types_rules.specs.Programs.{program_of}
use Rattle.types_laws.specs.Objects.{Each}
use Rattle.types_laws.specs.HeadedFunctions.{KeepTogether}

-- a route leads from states of an automaton to bodies; without a route there is one body
pub record IsRouted (program : Program) (function : Function) : Type 0 where
  pub routed : IfSome function.dispatch (IsValidRoute program (length function.bodies))
  pub one_body : IfNone function.dispatch (length function.bodies ≡ 1)

-- so it is with each function, and entry functions take no parameters
pub record AreRouted (program : Program) : Type 0 where
  pub functions : Each (IsRouted program) program.functions
  pub automata : Each (IsValidAutomaton program) program.automata

-- where declarations stand, and no function breaks what its bodies keep together
abbrev pub RoutesAreValid : Type 0
RoutesAreValid =
    (tree : Tree) (done : Done) (marks : List Mark) (dynamic : ℤ)
    → let source : Source = source_of tree in
    declarations source (around_of source tree) (beginning source) tree ≡ Stands done
    → KeepTogether source (all_stated source tree)
    → AreRouted (program_of source (all_stated source tree) marks dynamic done)
