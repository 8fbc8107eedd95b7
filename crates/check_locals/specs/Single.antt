-- Whether a statement of a program makes a slot, and so stands in a block where it stands alone.
use Rattle.std.specs.Prelude.{Bool, true, false}
use Rattle.pawn_meaning.specs.Program.{Stmt, Local, LocalArray}

-- a statement that makes a slot
abbrev pub is_variable : Stmt → Bool
is_variable (Local slot value) = true
is_variable (LocalArray slot object) = true
is_variable _ = false
