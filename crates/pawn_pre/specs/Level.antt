-- The files that are open, with the lines that are left of each: for the proof alone.
use Rattle.std.specs.Prelude.{ℕ, Option, Some, None, List, [], Bool, true, false}
use Rattle.pawn_pre.specs.declared.row.Row.{Row}
use Rattle.pawn_pre.specs.declared.state.Part.{Part}
use Rattle.pawn_pre.specs.declared.state.Part.TheVariants.{Chosen, Waiting, Done}
use Rattle.pawn_pre.specs.declared.state.Conditional.{Conditional}
use Rattle.pawn_pre.specs.File.{File}

-- an open file: its number, the number of its last line, whether a comment is open at its end,
-- the lines that are left, and its open conditionals, the innermost first
pub record Level : Type 0 where
  pub file : ℕ
  pub last : ℕ
  pub unclosed : Bool
  pub rows : List Row
  pub conditionals : List Conditional

-- a part is chosen
abbrev pub is_chosen_part : Part → Bool
is_chosen_part Chosen = true
is_chosen_part Waiting = false
is_chosen_part Done = false

-- within a part that isn't chosen no conditional chooses any, so the innermost tells
abbrev pub is_chosen : Option Conditional → Bool
is_chosen None = true
is_chosen (Some c) = is_chosen_part c.part

-- a file at its beginning
abbrev pub opened : ℕ → File → Level
opened number file = record {
  file = number;
  last = file.last;
  unclosed = file.unclosed;
  rows = file.rows;
  conditionals = [];
}
