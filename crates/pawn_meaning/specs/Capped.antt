-- Numbers as calls answer them.
use Rattle.std.specs.Prelude.{ℕ, ◌^◌, ◌-◌, min}

-- the number itself, or the greatest 64-bit number where it is above that
abbrev pub capped : ℕ → ℕ
capped n = min n (2 ^ 64 - 1)
