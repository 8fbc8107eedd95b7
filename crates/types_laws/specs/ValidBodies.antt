-- The objects and bodies of declarations that stand are valid and within the limits.
use Rattle.std.specs.Prelude.{◌≡◌, ℕ, List, []}
use Rattle.pawn_tree.specs.Declarations.{Tree}
use Rattle.pawn_meaning.specs.Program.{Program}
use Rattle.pawn_meaning.specs.Scope as program
use Rattle.pawn_meaning.specs.Valid.{IsValidBody}
use Rattle.pawn_meaning.specs.Limits.{IsWithinBody}
use Rattle.names_rules.specs.Verdict.{Stands}
use Rattle.types_rules.specs.Around.{Around}
use Rattle.types_rules.specs.Points.{Point}
use Rattle.types_rules.specs.Sources.{Source}
use Rattle.types_rules.specs.Declarations.{Bodied, Done, declarations}
use Rattle.types_laws.specs.Known.{KnowsAround}
use Rattle.types_laws.specs.Objects.{Each, IsGoodObject}
use Rattle.types_laws.specs.Plain.{HasTags}
use Rattle.types_laws.specs.Sits.{Sits}
use Rattle.types_laws.specs.Seen.{IsSeenPath}
use Rattle.types_laws.specs.ValidStatements.{IsGoodSlot, IsCalled}
use Rattle.types_laws.specs.WrittenDeclarations.{IsWrittenTree}

-- the scope at the level of the file: there are no slots
abbrev pub file_scope : Program → program.Scope
file_scope it = record { program = it; slots = []; params = 0; made = [] }

-- a body that is valid for its own parameters
pub record IsSoundBody (it : Program) (body : Bodied) : Type 0 where
  pub params : Each IsGoodSlot body.params
  pub valid : IsValidBody it body.params body.body
  pub within : IsWithinBody body.body

-- what is known of the surroundings of declarations
pub record IsFileSite (it : Program) (cx : Around) (called : List (List ℕ)) (source : Source)
    (point : Point) : Type 0 where
  pub around : KnowsAround it cx
  pub tags : HasTags cx
  pub automata : source.automata ≡ it.automata
  pub path : IsSeenPath (file_scope it) cx (IsCalled called) point.scope

-- what declarations make
pub record AreSoundBodies (it : Program) (done : Done) : Type 0 where
  pub objects : Each IsGoodObject done.objects
  pub bodies : Each (IsSoundBody it) done.bodies

-- so it is with declarations that stand
abbrev pub BodiesAreValid : Type 0
BodiesAreValid =
    (it : Program) (cx : Around) (called : List (List ℕ)) (source : Source) (point : Point)
    (tree : Tree) (done : Done) → IsFileSite it cx called source point
    → IsWrittenTree (IsCalled called) tree → declarations source cx point tree ≡ Stands done
    → Sits it.objects point.objects done.objects → AreSoundBodies it done
