-- The records of a file's tables.
use Rattle.std.specs.Prelude.{ℕ, ℤ, pos, negsuc, Option, None, Some}
use Rattle.pawn_cells.specs.Cells.{cell_of}
use Rattle.pawn_meaning.specs.declared.program.Public.{Public}
use Rattle.pawn_meaning.specs.declared.program.Tag.{Tag}
use Rattle.amx_ops.specs.declared.amx.Record.{Record}

-- of a public function, with the address at which it begins
abbrev pub public_record : (ℕ → ℕ) → Public → Record
public_record entry it = record { address = pos (entry it.function); name = it.name }

-- of a tag, with the cell whose bits its number is
abbrev pub tag_record : Tag → Record
tag_record it = record { address = cell_of it.number; name = it.name }

-- where main begins, or -1
abbrev pub main_with : (ℕ → ℕ) → Option ℕ → ℤ
main_with entry None = negsuc 0
main_with entry (Some f) = pos (entry f)
