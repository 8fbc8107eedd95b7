-- At the beginning of a file names mean what is there, tags are numbers, and bodies call natives
-- that are the program's.
use Rattle.std.specs.Prelude.{◌≤◌, ◌^◌, ℤ, List, length}
use Rattle.pawn_tree.specs.Declarations.{Tree}
use Rattle.pawn_meaning.specs.Program.{Program}
use Rattle.names_rules.specs.Mark.{Mark}
use Rattle.types_rules.specs.Sources.{Source, source_of, all_stated, around_of, beginning}
use Rattle.types_rules.specs.Declarations.{Done}
use Rattle.types_rules.specs.Programs.{program_of}
use Rattle.types_laws.specs.Known.{KnowsAround}
use Rattle.types_laws.specs.Written.{IsAnyName}
use Rattle.types_laws.specs.ValidStatements.{IsCalled}
use Rattle.types_laws.specs.WrittenDeclarations.{IsWrittenTree}
use Rattle.types_laws.specs.ValidBodies.{IsFileSite}

-- what a tree and its program are to the laws of declarations
pub record IsFile (tree : Tree) (it : Program) : Type 0 where
  pub site : IsFileSite it (around_of (source_of tree) tree) (source_of tree).called
      (source_of tree)
      (beginning (source_of tree))
  pub written : IsWrittenTree (IsCalled (source_of tree).called) tree

-- where there are not too many tags, and what can be called is a function of the program
abbrev pub FilesAreSites : Type 0
FilesAreSites =
    (tree : Tree) (done : Done) (marks : List Mark) (dynamic : ℤ)
    → let source : Source = source_of tree in
    let it : Program = program_of source (all_stated source tree) marks dynamic done in
    length source.tags ≤ 2 ^ 32 → KnowsAround it (around_of source tree)
    → IsWrittenTree IsAnyName tree → IsFile tree it
