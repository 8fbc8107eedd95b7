-- The elements of a part with one size.
use Rattle.std.proofs.Common.{◌≡◌, ◌*◌, ℕ, arith}

pub times_one : (n : ℕ) → n * 1 ≡ n
times_one n = omega arith
