-- A statement that stands is valid where it stands, and makes its slots in order: each a good one,
-- as its objects are.
use Rattle.std.specs.Prelude.{◌≡◌, ◌≤◌, ℕ, List, Bool, true, length}
use Rattle.pawn_base.specs.Among.{is_among}
use Rattle.pawn_tree.specs.Statements.{Stmt}
use Rattle.pawn_meaning.specs.Program.{Slot}
use Rattle.pawn_meaning.specs.Scope as program
use Rattle.pawn_meaning.specs.Valid.{IsSlot, numbers_from}
use Rattle.pawn_meaning.specs.ValidStmts.{all_slots_made, IsValidStmt}
use Rattle.pawn_meaning.specs.Limits.{IsWithinSlot}
use Rattle.names_rules.specs.Verdict.{Stands}
use Rattle.types_rules.specs.Around.{Around}
use Rattle.types_rules.specs.Points.{Point}
use Rattle.types_rules.specs.Stood.{Stood, one_of}
use Rattle.types_rules.specs.Statements.{stmt}
use Rattle.types_laws.specs.Known.{KnowsAround}
use Rattle.types_laws.specs.Objects.{Each, IsGoodObject}
use Rattle.types_laws.specs.Plain.{HasTags}
use Rattle.types_laws.specs.Sits.{Sits}
use Rattle.types_laws.specs.Seen.{IsSeenPath}
use Rattle.types_laws.specs.WrittenStatements.{IsWrittenStmt}

-- a slot within the limits
pub record IsGoodSlot (slot : Slot) : Type 0 where
  pub valid : IsSlot slot
  pub within : IsWithinSlot slot

-- the names that are called
abbrev pub IsCalled : List (List ℕ) → List ℕ → Type 0
IsCalled called name = is_among name called ≡ true

-- what is known of the surroundings of a statement
pub record IsSite (scope : program.Scope) (cx : Around) (called : List (List ℕ)) (point : Point)
    : Type 0 where
  pub around : KnowsAround scope.program cx
  pub tags : HasTags cx
  pub path : IsSeenPath scope cx (IsCalled called) point.scope
  pub low : scope.params ≤ point.slots

-- the objects and slots that a statement makes are those of the program and body
pub record IsPartOf (scope : program.Scope) (point : Point) (x : Stood) : Type 0 where
  pub objects : Sits scope.program.objects point.objects x.objects
  pub slots : Sits scope.slots point.slots x.slots

-- a statement as one, with what it makes
pub record IsSoundStmt (scope : program.Scope) (in_loop : Bool) (point : Point) (x : Stood)
    : Type 0 where
  pub valid : IsValidStmt scope in_loop true (one_of x)
  pub made : all_slots_made (one_of x) ≡ numbers_from point.slots (length x.slots)
  pub slots : Each IsGoodSlot x.slots
  pub objects : Each IsGoodObject x.objects

-- so it is with each statement that stands
abbrev pub StatementsAreValid : Type 0
StatementsAreValid =
    (scope : program.Scope) (cx : Around) (called : List (List ℕ)) (result : ℕ) (point : Point)
    (in_loop : Bool) (s : Stmt) (x : Stood) → IsSite scope cx called point
    → IsWrittenStmt (IsCalled called) s
    → stmt cx scope.program.automata result point in_loop s ≡ Stands x → IsPartOf scope point x
    → IsSoundStmt scope in_loop point x
