-- Numbers, as the Pawn Language Guide's general syntax gives them: digits in a radix behind its
-- prefix, and what must not stand behind them.
use Rattle.std.specs.Prelude.{◌≡◌, ◌<◌, ◌^◌, ℕ, ℤ, List, [], ◌++◌, Bool, IsTrue, Result, Ok, Err}
use Rattle.std.specs.Prelude.{length, codes, nat_lt, ◌==◌, ◌&&◌, ◌||◌, if◌then◌else◌}
use Rattle.std.specs.Int.{cast_signed, w32}
use Rattle.std.specs.List.{list_all}
use Rattle.std.specs.Str.Parse.{digits_value}
use Rattle.pawn_token.specs.declared.class.Class.{Class}
use Rattle.pawn_token.specs.declared.class.Class.TheVariants as class
use Rattle.pawn_token.specs.declared.number.Radix.{Radix}
use Rattle.pawn_token.specs.declared.number.Radix.TheVariants.{Ten, Sixteen, Two}
use Rattle.pawn_token.specs.Class.{is_in, byte_at}
use Rattle.pawn_token.specs.Fault.{bad_number, number_too_wide}

-- what stands before the digits
abbrev pub prefix : Radix → List ℕ
prefix Ten = []
prefix Sixteen = codes "0x"
prefix Two = codes "0b"

-- what its digits are
abbrev pub digit_class : Radix → Class
digit_class Ten = class.Digit
digit_class Sixteen = class.Hexadecimal
digit_class Two = class.Binary

-- a digit counts so many times the one behind it
abbrev pub base : Radix → ℕ
base Ten = 10
base Sixteen = 16
base Two = 2

-- bytes that are a number of this value
pub record IsNumeral (spelling : List ℕ) (value : ℕ) : Type 0 where
  pub radix : Radix
  pub digits : List ℕ
  pub spelled : spelling ≡ prefix radix ++ digits
  pub some : 0 < length digits
  pub all : IsTrue (list_all (is_in (digit_class radix)) digits)
  pub value_is : value ≡ digits_value (base radix) digits

-- a letter, or a point and a digit
unfoldable pub is_glued : List ℕ → Bool
is_glued rest =
    is_in class.NameStart (byte_at rest 0)
    || byte_at rest 0 == 46 && is_in class.Digit (byte_at rest 1)

-- the cell with the 32 bits of a number, with these bytes behind it
unfoldable pub cell_of : ℕ → List ℕ → Result ℤ ℕ
cell_of value rest =
    if is_glued rest then Err bad_number
    else if nat_lt value (2 ^ 32) then Ok (cast_signed w32 value)
    else Err number_too_wide
