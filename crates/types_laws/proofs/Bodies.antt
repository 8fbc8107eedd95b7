-- What is known of statements, by the body that they stand in, and of the slots of its variables.
use Rattle.std.proofs.Common.{◌≡◌, ◌+◌, ◌≤◌, ℕ, List, [], ◌∷◌, ◌++◌, Bool, Option, Some, refl, sym}
use Rattle.std.proofs.Common.{ap, ◌∙◌, subst, arith}
use Rattle.std.specs.Prelude.{length, slice_get}
use Rattle.pawn_meaning.specs.Program.{Slot, ScalarSlot, ArraySlot, StaticObject, Object, SlotArray}
use Rattle.pawn_meaning.specs.Program as code
use Rattle.pawn_meaning.specs.Scope.{extent, known_extent, object_extent, slot_extent}
use Rattle.pawn_meaning.specs.Scope as program
use Rattle.pawn_meaning.specs.Valid.{AreSizes, numbers_from}
use Rattle.pawn_meaning.specs.ValidExprs.{IsCellObject}
use Rattle.pawn_meaning.specs.ValidStmts.{slots_made_by, all_slots_made_by, AreValidStmts}
use Rattle.types_rules.specs.Around.{Around}
use Rattle.types_rules.specs.Scope.{Scope}
use Rattle.types_rules.specs.Points.{Point, extent_of}
use Rattle.types_rules.specs.Stood.{Stood, stmts_in}
use Rattle.types_laws.specs.Objects.{Each, IsGoodObject}
use Rattle.types_laws.specs.Sits.{Sits}
use Rattle.types_laws.specs.Seen.{IsSeenPath}
use Rattle.types_laws.specs.ValidStatements.{IsGoodSlot}

-- ---- what is known of statements, by the body that they stand in

-- the program, the slots of the body, and how many of them are parameters
pub record Place : Type 0 where
  pub program : code.Program
  pub slots : List Slot
  pub params : ℕ

-- with these slots made
abbrev pub scope_at : Place → List ℕ → program.Scope
scope_at place made = record {
  program = place.program;
  slots = place.slots;
  params = place.params;
  made = made;
}

pub record Here (place : Place) (cx : Around) (Calls : List ℕ → Type 0) (made : List ℕ)
    (point : Point) : Type 0 where
  pub path : IsSeenPath (scope_at place made) cx Calls point.scope
  pub low : place.params ≤ point.slots

-- statements that stand, and what stands behind them
pub record SoundStatements (place : Place) (cx : Around) (Calls : List ℕ → Type 0) (made : List ℕ)
    (point : Point) (in_loop : Bool) (to : Point) (x : Stood) : Type 0 where
  pub valid : AreValidStmts (scope_at place made) in_loop (stmts_in x.stmts)
  pub all_made : all_slots_made_by (stmts_in x.stmts) ≡ numbers_from point.slots (length x.slots)
  pub slots : Each IsGoodSlot x.slots
  pub objects : Each IsGoodObject x.objects
  pub behind : Here place cx Calls (made ++ slots_made_by (stmts_in x.stmts)) to
  pub at_objects : to.objects ≡ point.objects + length x.objects
  pub at_slots : to.slots ≡ point.slots + length x.slots

-- where they sit in the program
pub record StandsSound (place : Place) (cx : Around) (Calls : List ℕ → Type 0) (in_loop : Bool)
    (point to : Point) (x : Stood) : Type 0 where
  pub sound : (made : List ℕ) → Here place cx Calls made point
      → Sits place.program.objects point.objects x.objects → Sits place.slots point.slots x.slots
      → SoundStatements place cx Calls made point in_loop to x

-- ---- the slots of variables

pub scalar_good : IsGoodSlot ScalarSlot
scalar_good = record { valid = tt; within = tt }

shaped_extent : (sizes : List ℕ) → AreSizes sizes → known_extent sizes ≡ Some (extent_of sizes)
shaped_extent [] h = absurd (omega (arith, h.0))
shaped_extent (size ∷ inner) h = refl

pub object_there : (scope : program.Scope) (o : ℕ) (it : StaticObject)
    → slice_get scope.program.objects o ≡ Some it → AreSizes it.sizes
    → extent scope (Object o) ≡ Some (extent_of it.sizes)
object_there scope o it e h =
    ap (λ (x : Option StaticObject). object_extent x) e ∙ shaped_extent it.sizes h

pub slot_there : (scope : program.Scope) (s : ℕ) (sizes : List ℕ)
    → slice_get scope.slots s ≡ Some (ArraySlot sizes) → AreSizes sizes
    → extent scope (SlotArray s) ≡ Some (extent_of sizes)
slot_there scope s sizes e h =
    ap (λ (x : Option Slot). slot_extent x) e ∙ shaped_extent sizes h

pub cell_there : (it : Option StaticObject) (object : StaticObject) → it ≡ Some object
    → object.sizes ≡ 1 ∷ [] → IsCellObject it
cell_there it object e h =
    subst (λ (x : Option StaticObject). IsCellObject x) (sym e) h
