-- What is seen of a tree that was checked.
use Rattle.pawn_meaning.specs.View.{program_view}
use Rattle.types_rules.specs.TypedTrees as plain
use Rattle.pawn_check.specs.declared.checked.Checked.{Checked}

-- the plain program, and the places of the warnings
abbrev pub checked_view : Checked → plain.Checked
checked_view it = record { program = program_view it.program; warnings = it.warnings }
