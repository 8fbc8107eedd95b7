-- The numbers that a count of groups holds with their sign.
use Rattle.std.specs.Prelude.{◌*◌, ◌^◌, ◌<◌, ℕ, zero, suc, ℤ, pos, negsuc}

-- what the groups spell but for the sign: of a number below 0 its complement
abbrev pub magnitude_of : ℤ → ℕ
magnitude_of (pos n) = n
magnitude_of (negsuc n) = n

-- in two's complement with seven bits for each group
abbrev pub InGroups : ℕ → ℤ → Type 0
InGroups zero cell = ⊥
InGroups (suc n) cell = magnitude_of cell < 64 * 128 ^ n
