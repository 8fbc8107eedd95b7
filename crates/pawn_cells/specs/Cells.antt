-- 32-bit cells in two's complement, each a whole number from -2^31 to 2^31 - 1 (Language Guide,
-- "Operators and expressions"; Implementer's Guide, "Instruction reference").
use Rattle.std.specs.Prelude.{◌+◌, ◌-◌, ◌*◌, ◌/◌, ◌%◌, ◌^◌, ◌⊎◌, ℕ, zero, suc, Bool, true, false, ℤ}
use Rattle.std.specs.Prelude.{pos, negsuc, neg_ℤ, ◌+ℤ◌, ◌-ℤ◌, ◌*ℤ◌, ◌≤ℤ◌, ◌<ℤ◌, FitsSigned, int_lt}
use Rattle.std.specs.Prelude.{int_le, nat_lt, nat_le}
use Rattle.std.specs.Int.{w32, int_wrap, cast_signed, cast_unsigned, int_bit_and, int_bit_or}
use Rattle.std.specs.Int.{int_bit_xor, int_bit_not, int_shl, int_shr}
use Rattle.std.specs.Ordering.{int_eq}

-- a whole number that 32 bits hold with its sign
abbrev pub IsCell : ℤ → Type 0
IsCell z = FitsSigned w32 z

-- the least cell, `cellmin`
abbrev pub least_cell : ℤ
least_cell = negsuc 0x7FFF_FFFF

-- the greatest cell, `cellmax`
abbrev pub greatest_cell : ℤ
greatest_cell = pos 0x7FFF_FFFF

-- ---- the two views

-- the cell that differs from a whole number by a multiple of 2^32
abbrev pub wrap : ℤ → ℤ
wrap z = int_wrap w32 z

-- the bits of a cell as a number without sign, below 2^32
abbrev pub bits_of : ℤ → ℕ
bits_of cell = cast_unsigned w32 cell

-- the cell whose bits a number below 2^32 is
abbrev pub cell_of : ℕ → ℤ
cell_of bits = cast_signed w32 bits

-- two numbers without sign added modulo 2^32, as addresses are
abbrev pub wrapped_sum : ℕ → ℕ → ℕ
wrapped_sum m n = (m + n) % 2 ^ 32

-- ---- arithmetic

-- the sum, wrapped
abbrev pub add : ℤ → ℤ → ℤ
add a b = wrap (a +ℤ b)

-- the difference, wrapped
abbrev pub sub : ℤ → ℤ → ℤ
sub a b = wrap (a -ℤ b)

-- the product, wrapped
abbrev pub mul : ℤ → ℤ → ℤ
mul a b = wrap (a *ℤ b)

-- the negative, wrapped
abbrev pub neg : ℤ → ℤ
neg a = wrap (neg_ℤ a)

-- ---- division

-- the quotient of two whole numbers, rounded towards minus infinity
abbrev pub floor_quotient : ℤ → ℤ → ℤ
floor_quotient (pos a) (pos d) = pos (a / d)
floor_quotient (negsuc a) (pos d) = negsuc (a / d)
floor_quotient (pos zero) (negsuc d) = pos 0
floor_quotient (pos (suc a)) (negsuc d) = negsuc (a / suc d)
floor_quotient (negsuc a) (negsuc d) = pos (suc a / suc d)

-- by a divisor other than 0: only the quotient of the least cell by -1 has to wrap
abbrev pub floor_div : ℤ → ℤ → ℤ
floor_div a d = wrap (floor_quotient a d)

-- what that quotient leaves of the dividend
abbrev pub floor_rem : ℤ → ℤ → ℤ
floor_rem a d = a -ℤ (floor_quotient a d *ℤ d)

-- the quotient of numbers without sign
abbrev pub unsigned_div : ℤ → ℤ → ℤ
unsigned_div a d = cell_of (bits_of a / bits_of d)

-- and the remainder
abbrev pub unsigned_rem : ℤ → ℤ → ℤ
unsigned_rem a d = cell_of (bits_of a % bits_of d)

-- a remainder lies from 0 towards the divisor, and doesn't reach it
abbrev pub IsRemainder : ℤ → ℤ → Type 0
IsRemainder r d = ((pos 0 ≤ℤ r) × (r <ℤ d)) ⊎ ((d <ℤ r) × (r ≤ℤ pos 0))

-- ---- bits

-- the bits that are set in both
abbrev pub and : ℤ → ℤ → ℤ
and a b = int_bit_and w32 a b

-- the bits that are set in one or both
abbrev pub or : ℤ → ℤ → ℤ
or a b = int_bit_or w32 a b

-- the bits that are set in one and not in both
abbrev pub xor : ℤ → ℤ → ℤ
xor a b = int_bit_xor w32 a b

-- all bits turned
abbrev pub invert : ℤ → ℤ
invert a = int_bit_not w32 a

-- a shift's count is taken modulo 32
abbrev pub shift_count : ℤ → ℕ
shift_count b = bits_of b % 32

-- to the left: bits shifted out are lost, and zeros come in
abbrev pub shl : ℤ → ℤ → ℤ
shl a b = int_shl w32 a (shift_count b)

-- to the right, copies of the sign coming in: the quotient by a power of 2, rounded down
abbrev pub shr : ℤ → ℤ → ℤ
shr a b = int_shr a (shift_count b)

-- to the right, zeros coming in
abbrev pub ushr : ℤ → ℤ → ℤ
ushr a b = cell_of (bits_of a / 2 ^ shift_count b)

-- ---- tests

-- below, as whole numbers
abbrev pub less : ℤ → ℤ → Bool
less a b = int_lt a b

-- not above, as whole numbers
abbrev pub less_eq : ℤ → ℤ → Bool
less_eq a b = int_le a b

-- the same cell
abbrev pub equal : ℤ → ℤ → Bool
equal a b = int_eq a b

-- below, as numbers without sign
abbrev pub unsigned_less : ℤ → ℤ → Bool
unsigned_less a b = nat_lt (bits_of a) (bits_of b)

-- not above, as numbers without sign
abbrev pub unsigned_less_eq : ℤ → ℤ → Bool
unsigned_less_eq a b = nat_le (bits_of a) (bits_of b)

-- the cell is 0
abbrev pub is_zero : ℤ → Bool
is_zero (pos zero) = true
is_zero (pos (suc n)) = false
is_zero (negsuc n) = false

-- 1 for true, 0 for false
abbrev pub truth : Bool → ℤ
truth true = pos 1
truth false = pos 0

-- 1 where the cell is 0, else 0
abbrev pub not : ℤ → ℤ
not a = truth (is_zero a)

-- ---- packed characters

-- what one more of character k adds to the bits: character 0 is the most significant byte
abbrev pub character_worth : ℕ → ℕ
character_worth k = 256 ^ (3 - k)

-- character k of a cell, for k below 4
abbrev pub char_at : ℤ → ℕ → ℕ
char_at cell k = bits_of cell / character_worth k % 256

-- the cell with another character k
abbrev pub with_char : ℤ → ℕ → ℕ → ℤ
with_char cell k byte =
    cell_of (bits_of cell - char_at cell k * character_worth k + byte * character_worth k)
