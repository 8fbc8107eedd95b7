-- Each function of a program takes the parameters of the head that its calls see, and each of its
-- bodies has them.
use Rattle.std.specs.Prelude.{◌≡◌, ℕ, ℤ, List, [], true, map, nat_eq, Some, slice_get}
use Rattle.pawn_tree.specs.Declarations.{Tree}
use Rattle.pawn_meaning.specs.Program.{Program}
use Rattle.names_rules.specs.Verdict.{Stands}
use Rattle.names_rules.specs.Mark.{Mark}
use Rattle.types_rules.specs.Around.{Callable, Head}
use Rattle.types_rules.specs.Groups.{Group}
use Rattle.types_rules.specs.Sources.{Source, Stated, source_of, all_stated, around_of, beginning}
use Rattle.types_rules.specs.Functions.{group_faults}
use Rattle.types_rules.specs.Declarations.{Bodied, Done, declarations}
use Rattle.types_rules.specs.Programs.{program_of}
use Rattle.types_laws.specs.Known.{slot_of, IsHeaded}
use Rattle.types_laws.specs.Objects.{Each}
use Rattle.types_laws.specs.Written.{IsAnyName}
use Rattle.types_laws.specs.WrittenDeclarations.{IsWrittenTree}

-- no function breaks what its bodies keep together
abbrev pub KeepTogether : Source → List Stated → Type 0
KeepTogether source all =
    Each (λ (group : Group). group_faults source all group ≡ []) source.groups

-- the bodies of a function, by its number, have these parameters
abbrev pub HaveParams : List Bodied → ℕ → Head → Type 0
HaveParams bodies f head =
    Each (λ (it : Bodied). nat_eq it.number f ≡ true → it.params ≡ map slot_of head.params) bodies

-- the function with a number is one of the program with this head, and its bodies are too
pub record IsHeadedBy (program : Program) (bodies : List Bodied) (f : ℕ) (it : Callable)
    (head : Head) : Type 0 where
  pub number : it.number ≡ f
  pub headed : IsHeaded program it.number head
  pub params : HaveParams bodies f head

-- so it is with each function that is known with a head
abbrev pub FunctionsAreHeaded : Type 0
FunctionsAreHeaded =
    (tree : Tree) (done : Done) (marks : List Mark) (dynamic : ℤ)
    → let source : Source = source_of tree in
    IsWrittenTree IsAnyName tree
    → declarations source (around_of source tree) (beginning source) tree ≡ Stands done
    → KeepTogether source (all_stated source tree)
    → (f : ℕ) (it : Callable) (head : Head)
    → slice_get (around_of source tree).functions f ≡ Some it → it.head ≡ Some head
    → IsHeadedBy (program_of source (all_stated source tree) marks dynamic done) done.bodies
    f it head
