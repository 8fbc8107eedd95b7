-- Places of tokens, and what is told of a place: the name of its file, and its line.
use Rattle.std.specs.Prelude.{◌-◌, ℕ, List, Option, None, Some, length, slice_get}
use Rattle.pawn_cells.specs.declared.place.Place.{Place}
use Rattle.pawn_pre.specs.Outcome.{name_of}
use Rattle.pawn_lex.specs.declared.token.Token.{Token}
use Rattle.types_rules.specs.TypedTrees.{first_line}
use Rattle.pawn_front.specs.declared.compiled.Warning.{Warning}

-- the place of a token, if there is one
abbrev pub place_by : Option Token → Place → Place
place_by None other = other
place_by (Some token) other = token.place

-- the place of token n; behind the last one it is that one's, and without tokens the first line
abbrev pub place_at : List Token → ℕ → Place
place_at ts n = place_by (slice_get ts n) (place_by (slice_get ts (length ts - 1)) first_line)

-- the warning at a place of files with these names
abbrev pub warning_at : List (List ℕ) → Place → Warning
warning_at files place = record { file = name_of files place.file; line = place.line }
