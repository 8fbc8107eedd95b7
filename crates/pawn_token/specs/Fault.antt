-- The numbers of the faults of tokens.
use Rattle.std.specs.Prelude.{ℕ}

-- a byte that begins no token
abbrev pub bad_byte : ℕ
bad_byte = 20

-- a number with a letter, or a point and a digit, directly behind it
abbrev pub bad_number : ℕ
bad_number = 21

-- a number of 2^32 or more
abbrev pub number_too_wide : ℕ
number_too_wide = 22

-- a text or a character that isn't closed as it should be
abbrev pub open_text : ℕ
open_text = 23

-- a name of more than 31 bytes
abbrev pub name_too_long : ℕ
name_too_long = 25

-- the control character with something behind it that is no escape
abbrev pub bad_escape : ℕ
bad_escape = 26
