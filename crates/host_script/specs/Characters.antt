-- A text's characters as they are written one after another: those before the first zero.
use Rattle.std.specs.Prelude.{ℕ, ℤ, pos, negsuc, List, [], ◌∷◌, Bool, false, Option, Some, None}
use Rattle.std.specs.Prelude.{nat_lt, if◌then◌else◌}
use Rattle.std.specs.Int.{w32, cast_unsigned}
use Rattle.std.specs.List.{flat_map, list_any}
use Rattle.std.specs.Ordering.{int_eq}
use Rattle.host_script.specs.Script.{bytes_of}
use Rattle.host_script.specs.Text.{character_text, stands_for_itself}

-- the text ends in these cells
abbrev pub has_zero : List ℤ → Bool
has_zero cells = list_any (λ cell. int_eq cell (pos 0)) cells

-- those before the first zero, or all
abbrev pub front : List ℤ → List ℤ
front [] = []
front (cell ∷ cells) = if int_eq cell (pos 0) then [] else cell ∷ front cells

-- each as it is printed, one behind another
abbrev pub characters_text : List ℤ → List ℕ
characters_text characters = flat_map character_text characters

-- four characters in a cell
abbrev pub is_packed : List ℤ → Bool
is_packed [] = false
is_packed (cell ∷ cells) = nat_lt 0xFFFFFF (cast_unsigned w32 cell)

-- the characters of cells, whether a zero ends them or not
abbrev pub unpacked : List ℤ → List ℤ
unpacked cells = if is_packed cells then flat_map bytes_of cells else cells

-- the byte of a character that stands for itself
abbrev pub itself : ℤ → Option ℕ
itself (pos c) = if stands_for_itself c then Some c else None
itself (negsuc c) = None
