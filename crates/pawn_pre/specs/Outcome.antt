-- What a source comes to.
use Rattle.std.specs.Prelude.{ℕ, nat_lt, slice_index_or, List, [], length, Bool}
use Rattle.pawn_cells.specs.declared.place.Place.{Place}
use Rattle.pawn_pre.specs.declared.line.Lines.{Lines}

-- the lines that are kept, a fault with the name of its file, a file that is too long, or a
-- source that isn't held
pub data Outcome : Type 0 where
  Whole : Lines → Outcome
  Fault : ℕ → Place → List ℕ → Outcome
  Long : List ℕ → Outcome
  NotHeld : Outcome

-- the name of a file by its number
abbrev pub name_of : List (List ℕ) → ℕ → List ℕ
name_of names file = slice_index_or names file []

-- more than 16,777,216 bytes
abbrev pub is_long_file : List ℕ → Bool
is_long_file bytes = nat_lt 16777216 (length bytes)
