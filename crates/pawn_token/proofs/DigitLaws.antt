-- The value of digits only grows by more of them.
use Rattle.std.proofs.Common.{◌≤◌, ◌<◌, ◌+◌, ◌*◌, ℕ, List, [], ◌∷◌, arith, mul-le-mul_left}
use Rattle.std.specs.Char.{digit_value}
use Rattle.std.specs.Str.Parse.{digits_value_after}

pub value_grows : (radix n : ℕ) (digits : List ℕ) → 0 < radix
    → n ≤ digits_value_after radix n digits
value_grows radix n [] positive = omega arith
value_grows radix n (digit ∷ digits) positive =
    let first = mul-le-mul_left n positive in
    let rest = value_grows radix (n * radix + digit_value digit) digits positive in
    omega (arith, first, rest)
