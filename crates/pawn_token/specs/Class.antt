-- The sets of bytes that the Pawn Language Guide's general syntax speaks of, and the run of one at
-- the front of a list of bytes.
use Rattle.std.specs.Prelude.{ℕ, List, Bool, nat_le, ◌==◌, ◌&&◌, ◌||◌, drop, slice_index}
use Rattle.std.specs.List.{take_while, prefix_len}
use Rattle.pawn_token.specs.declared.class.Class.{Class}
use Rattle.pawn_token.specs.declared.class.Class.TheVariants as class

-- whether a byte is one of a range, both ends among them
abbrev pub is_between : ℕ → ℕ → ℕ → Bool
is_between low high byte = nat_le low byte && nat_le byte high

-- `A` to `Z`, `a` to `z`, `_` and `@`
abbrev pub is_name_start : ℕ → Bool
is_name_start byte = is_between 65 90 byte || is_between 97 122 byte || byte == 95 || byte == 64

-- `0` to `9`
abbrev pub is_digit : ℕ → Bool
is_digit byte = is_between 48 57 byte

-- whether a byte is in a class
unfoldable pub is_in : Class → ℕ → Bool
is_in class.Blank byte = byte == 32 || byte == 9 || byte == 12 || byte == 13
is_in class.NameStart byte = is_name_start byte
is_in class.NameByte byte = is_name_start byte || is_digit byte
is_in class.Digit byte = is_digit byte
is_in class.Hexadecimal byte = is_digit byte || is_between 65 70 byte || is_between 97 102 byte
is_in class.Binary byte = byte == 48 || byte == 49

-- the bytes of a class at the front
abbrev pub run : Class → List ℕ → List ℕ
run class bytes = take_while (is_in class) bytes

-- what follows them
abbrev pub after : Class → List ℕ → List ℕ
after class bytes = drop (prefix_len (is_in class) bytes) bytes

-- a byte, or 0 behind the last one
abbrev pub byte_at : List ℕ → ℕ → ℕ
byte_at bytes i = slice_index bytes i
