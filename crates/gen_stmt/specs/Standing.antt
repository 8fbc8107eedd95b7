-- Where the code of a statement is appended, and what is known there of the locals that were made
-- before.
use Rattle.std.specs.Prelude.{◌≡◌, ◌≤◌, ℕ, List, [], drop, length, map, take}
use Rattle.pawn_meaning.specs.Program.{Slot}
use Rattle.pawn_meaning.specs.View.{program_view, slot_view}
use Rattle.gen_sim.specs.Pieces.{total, objects_from}
use Rattle.gen_sim.specs.Here.{Exits, Here}
use Rattle.gen_sim.specs.FlowCode.{made_cells}
use Rattle.gen_stmt.specs.Keeps.{Keeps, AreObjects, scope_in}
use Rattle.gen_stmt.specs.declared.locals.Locals.{Locals}
use Rattle.gen_stmt.specs.declared.locals.Mark.{Mark}
use Rattle.gen_stmt.specs.declared.place.Place.{Place}

-- behind these slots, of which so many were made before the loop's body began
abbrev pub here_in : Place → List ℕ → ℕ → Exits → Here
here_in place made since exits =
    record { scope = scope_in place made; since = drop since made; exits = exits }

-- in the body of a loop that begins there
abbrev pub within_in : Place → List ℕ → Exits → Here
within_in place made exits = record { scope = scope_in place made; since = []; exits = exits }

-- a mark of what was in force, in what is
abbrev pub IsMark : List Slot → Mark → List ℕ → Type 0
IsMark slots mark made =
    (mark.made ≤ length made) × (mark.cells ≡ made_cells slots (take mark.made made))

-- the locals are said as they are, and so are the program's objects and all their cells
pub record Stands (place : Place) (locals : Locals) : Type 0 where
  pub objects : AreObjects place
  pub automata : place.automata ≡ total (objects_from 0 (program_view place.program.now).objects)
  pub keeps : Keeps (map slot_view place.slots.now) place.params locals

-- and a loop's body began there
pub record Within (place : Place) (since : Mark) (locals : Locals) : Type 0 where
  pub stands : Stands place locals
  pub mark : IsMark (map slot_view place.slots.now) since locals.made.items
