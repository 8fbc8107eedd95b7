-- What settling one line of a page gives.
use Rattle.std.specs.Prelude.{ℕ, Result, Ok, Err, List}
use Rattle.pawn_cells.specs.declared.place.Place.{Place}
use Rattle.pawn_pre.specs.Outcome.{Outcome, Fault, name_of}
use Rattle.pawn_pre.specs.Marks.{Mark, begun}
use Rattle.pawn_pre.specs.OpenLines.{Open}

-- the next page, or the outcome
pub data Turn : Type 0 where
  Goes : List Mark → List Open → Turn
  Halts : Outcome → Turn

-- a fault at a line
abbrev pub fault : List Mark → Place → ℕ → Turn
fault marks at kind = Halts (Fault kind at (name_of (begun marks) at.file))

-- what follows a value, or its fault at a line
abbrev pub or_fault_at : {A : Type 0} → List Mark → Place → Result A ℕ → (A → Turn) → Turn
or_fault_at marks at (Ok a) go_on = go_on a
or_fault_at marks at (Err kind) go_on = fault marks at kind
